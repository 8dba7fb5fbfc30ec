-- A request is read by the tags as meant: decode of encode is the command. Labels: each target's flags compute, and code and parameters are
-- those of the task's row, by which a label reads them. Chips: length, code and byte compute.
-- Assumes nothing.
use mathlib.Core.Path.{◌≡◌, refl, ap, ◌∙◌}
use mathlib.Core.Bool.{Bool, true, false}
use mathlib.Core.List.{List, [], ◌∷◌, ◌++◌, append-nil}
use Prim.Native.Nat.{ℕ, ◌+◌, ◌-◌, ◌*◌, ◌/◌, ◌%◌, ◌≤◌}
use native.Mathlib.Omega.{arith}
use lib.ListN.{length}
use lib.Seq.{length-take-le}
use borrow.Author.Tests.{eq-eqb, ne_eqb}
use Rattle.frame.specs.CheckSum.{framed}
use Rattle.request.specs.Table.{row_of}
use Rattle.request.specs.Label as labels
use Rattle.request.specs.declared.table.Task.{Task}
use Rattle.request.specs.declared.table.Row.{Row}
use Rattle.request.specs.declared.label.Params.{Params}
use Rattle.request.specs.declared.label.Target.{Target}
use Rattle.request.specs.declared.label.Target.TheVariants.{Everyone, Selected, One}
use Rattle.request.specs.declared.label.Family.{Family}
use Rattle.request.specs.declared.label.Family.TheVariants.{Any, Only}
use Rattle.request.specs.declared.label.Call.{Call}
use Rattle.request.specs.declared.label.Call.TheVariants as k
use Rattle.request.specs.Chip as chips
use Rattle.request.specs.declared.chip.Order.TheVariants as c
use Rattle.request.proofs.TableRows.{RowFine, row_fine}
use Rattle.request.proofs.LabelFramed.{everyone_back, selected_back, one_back, data_open_back, data_one_back}
use Rattle.request.proofs.ChipFramed.{short_back, pair_back, long_back}
use Rattle.request.proofs.LabelFramed.{sixteen_back, one_slot_back, sixteen_afi_back, one_slot_afi_back}
use Rattle.reader.specs.declared.command.ChipTask.{ChipTask}
use Rattle.reader.specs.declared.command.ChipTask.TheVariants as p
use Rattle.reader.specs.declared.command.Command.TheVariants.{Inventory, Label, Chip}
use Rattle.reader.specs.Command.{chip_fits, valid}
use Rattle.reader.specs.Request.{uid_part, parameters, params, flags, content, encode, uid_meant, taken, label_meant, chip_meant}
use Rattle.reader.proofs.CommandValid.{LabelFacts, valid_inventory, valid_chip, valid_label, marker_small, read_listed, write_listed}

-- ---- labels

-- flags and UID are read back
flags_back : (to : Target) (option : Bool) (code : ℕ) (uid ps : List ℕ) → length uid ≡ 8
    → labels.decode (framed (flags to option ∷ code ∷ (uid_part to uid ++ ps))) ≡ record { uid = uid_meant to uid; call = labels.call to code option ps }
flags_back Everyone option code uid ps h = everyone_back code ps option
flags_back Selected option code uid ps h = selected_back code ps option
flags_back One option code uid ps h = one_back code ps option uid h

-- a row's parameters are as many as the row says, and a block's data stands behind one
row_back : (to : Target) (option : Bool) (task : Task) (row : Row) (p : Params) (d : List ℕ) → RowFine task row → LabelFacts row to option p (length d)
    → labels.by_row to option (params row p d) row ≡ k.Do to task (taken row p) option
unfolding labels.by_row taken
row_back to option task row p d ok v = go row.block refl
  where
    go : (b : Bool) → row.block ≡ b → labels.by_row to option (params row p d) row ≡ k.Do to task (taken row p) option
    go true e = rw (e, v.target, ok.block e, ok.named)
    go false e =
        let l : length (parameters row p ++ []) + 4 ≡ row.len =
        ap (λ (s : List ℕ). length s + 4) (append-nil (parameters row p))
        ∙ omega (arith, length-take-le (row.len - 4) (p.first ∷ p.second ∷ []) (omega arith))
        in
        rw (e, v.target, eq-eqb _ _ l, v.allowed, ok.named, append-nil (parameters row p))

-- code and parameters are read back
call_back : (to : Target) (option : Bool) (task : Task) (p : Params) (d : List ℕ) → LabelFacts (row_of task) to option p (length d)
    → labels.call to (row_of task).code option (params (row_of task) p d) ≡ k.Do to task (taken (row_of task) p) option
unfolding labels.call labels.checked
call_back to option task p d v =
    let ok = row_fine task in
    rw (ok.other, ok.found) (row_back to option task (row_of task) p d ok v)

-- a label takes a label command as meant
pub label_is_meant : (to : Target) (option : Bool) (task : Task) (p : Params) (uid d : List ℕ) → valid (Label to option task p) (length d) ≡ true
    → length uid ≡ 8 → labels.decode (encode (Label to option task p) uid d) ≡ label_meant to option task p uid
unfolding encode content label_meant
label_is_meant to option task p uid d v h =
    flags_back to option (row_of task).code uid (params (row_of task) p d) h
    ∙ ap (λ (x : Call). record { uid = uid_meant to uid; call = x }) (call_back to option task p d (valid_label to option task p (length d) v))

-- and the bytes that go with a block
pub data_meant : (to : Target) (option : Bool) (task : Task) (p : Params) (uid d : List ℕ) → length uid ≡ 8 → (row_of task).block ≡ true
    → labels.data_of (encode (Label to option task p) uid d) ≡ d
unfolding encode content
data_meant to option task p uid d h e = rw (e, (row_fine task).block e) (go to option)
  where
    x : ℕ
    x = (row_of task).code

    go : (to : Target) (option : Bool) → labels.data_of (framed (flags to option ∷ x ∷ (uid_part to uid ++ (p.first ∷ d)))) ≡ d
    go Everyone true = data_open_back 66 x p.first d refl
    go Everyone false = data_open_back 2 x p.first d refl
    go Selected true = data_open_back 82 x p.first d refl
    go Selected false = data_open_back 18 x p.first d refl
    go One true = data_one_back 98 x p.first uid d h refl
    go One false = data_one_back 34 x p.first uid d h refl

-- an Inventory
pub inventory_meant : (to : Target) (option : Bool) (family : Family) (sixteen : Bool) (bits mask : ℕ) (uid d : List ℕ)
    → valid (Inventory to option family sixteen bits mask) (length d) ≡ true
    → labels.decode (encode (Inventory to option family sixteen bits mask) uid d) ≡ labels.bare (k.Inventory family sixteen bits mask)
unfolding encode content
inventory_meant to option Any true bits mask uid d v =
    let x = valid_inventory to option Any true bits mask (length d) v in sixteen_back bits mask x.low x.short
inventory_meant to option Any false bits mask uid d v =
    let x = valid_inventory to option Any false bits mask (length d) v in one_slot_back bits mask x.low x.short
inventory_meant to option (Only afi) true bits mask uid d v =
    let x = valid_inventory to option (Only afi) true bits mask (length d) v in sixteen_afi_back bits mask x.low afi x.short
inventory_meant to option (Only afi) false bits mask uid d v =
    let x = valid_inventory to option (Only afi) false bits mask (length d) v in one_slot_afi_back bits mask x.low afi x.short

-- ---- chips

marker_back : (s : ℕ) → 1 ≤ s → s ≤ 15 → chips.short (s * 16 + 6) ≡ c.Marker s
unfolding chips.short
marker_back s h l =
    let a : (s * 16 + 6) % 16 ≡ 6 = omega arith in
    let b : (s * 16 + 6) / 16 ≡ s = omega arith in
    rw (
      ne_eqb (s * 16 + 6) 0x0B (λ e. omega arith),
      ne_eqb (s * 16 + 6) 0x0C (λ e. omega arith),
      ne_eqb (s * 16 + 6) 0x0F (λ e. omega arith),
      a,
      b,
      ne_eqb s 0 (λ e. omega arith),
    )

chip_back : (task : ChipTask) (to : Target) (option : Bool) (uid d : List ℕ) → chip_fits task (length d) ≡ true
    → chips.decode (encode (Chip to option task) uid d) ≡ chip_meant task d
unfolding encode content chip_meant chips.short chips.pair chips.long
chip_back p.Initiate to option uid d v = pair_back 0x06 0x00
chip_back p.Pcall to option uid d v = pair_back 0x06 0x04
chip_back (p.Marker s) to option uid d v = let b = marker_small s (length d) v in short_back (s * 16 + 6) ∙ marker_back s b.0 b.1
chip_back (p.Select id) to option uid d v = pair_back 0x0E id
chip_back p.Completion to option uid d v = short_back 0x0F
chip_back p.Reset to option uid d v = short_back 0x0C
chip_back (p.Read x) to option uid d v = pair_back 0x08 x ∙ rw (read_listed x (length d) v)
chip_back p.Uid to option uid d v = short_back 0x0B
chip_back (p.Write x) to option uid d v = let b = write_listed x (length d) v in long_back 0x09 x d b.0 ∙ rw b.1

-- a chip takes a chip command as meant
pub chip_is_meant : (to : Target) (option : Bool) (task : ChipTask) (uid d : List ℕ) → valid (Chip to option task) (length d) ≡ true
    → chips.decode (encode (Chip to option task) uid d) ≡ chip_meant task d
chip_is_meant to option task uid d v = chip_back task to option uid d (valid_chip to option task (length d) v)
