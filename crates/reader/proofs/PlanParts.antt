-- A plan's parts, one behind the other, are the request's bytes, and fit the room that every buffer has: by the cases of the command.
-- Assumes nothing.
use Rattle.std.specs.Prelude.{if◌then◌else◌}
use mathlib.Core.Path.{◌≡◌, refl, ap, ◌∙◌}
use mathlib.Core.Bool.{Bool, true, false}
use mathlib.Core.List.{List, [], ◌∷◌, ◌++◌, append_assoc, append-nil}
use Prim.Native.Nat.{ℕ, zero, suc, ◌+◌, ◌-◌, ◌*◌, ◌/◌, ◌%◌, ◌≤◌, ◌<◌}
use native.Mathlib.Nat.{mod-eq_of_lt, div-eq_of_lt, add-mul-mod_self_left, add-mul-div_left, zero-add}
use native.Mathlib.Omega.{arith}
use lib.Dec.{lit<}
use lib.ListN.{length, take, length-append}
use lib.Seq.{sets, take_all, take-length, length-take-le}
use Rattle.frame.specs.Number.{bytes_of}
use Rattle.frame.specs.CheckSum.{framed, crc_of}
use Rattle.frame.specs.Ending.{bytes_for}
use Rattle.frame.proofs.CheckSumFrames.{length_framed}
use Rattle.frame.proofs.Numbers.{length_bytes}
use Rattle.frame.proofs.Puts.{laid_none, laid_number, laid_bytes, laid_seal, laid_done}
use Rattle.request.specs.Table.{row_of}
use Rattle.request.specs.declared.table.Task.{Task}
use Rattle.request.specs.declared.table.Row.{Row}
use Rattle.request.specs.declared.label.Params.{Params}
use Rattle.request.specs.declared.label.Target.{Target}
use Rattle.request.specs.declared.label.Target.TheVariants.{Everyone, Selected, One}
use Rattle.request.specs.declared.label.Family.{Family}
use Rattle.request.specs.declared.label.Family.TheVariants.{Any, Only}
use Rattle.request.proofs.TableRows.{row_fine}
use Rattle.reader.specs.declared.command.ChipTask.{ChipTask}
use Rattle.reader.specs.declared.command.ChipTask.TheVariants as p
use Rattle.reader.specs.declared.command.Command.{Command}
use Rattle.reader.specs.declared.command.Command.TheVariants.{Inventory, Label, Chip, Other}
use Rattle.reader.specs.declared.writer.Plan.{Plan}
use Rattle.reader.specs.Command.{data_fits, chip_fits, valid}
use Rattle.reader.specs.Request.{uid_part, parameters, params, chip_bytes, inventory_bytes, flags, content, at_front}
use Rattle.reader.specs.Plan.{low as low_of, parts_of, uid_count, label_plan, short_plan, inventory_plan, chip_plan, plan_of, RangedFamily, RangedChip, Ranged, PlanFits}
use Rattle.reader.proofs.CommandValid.{valid_inventory, valid_chip, valid_label, marker_small, write_listed, block_long}

-- ---- numbers made of two bytes

low : (f k : ℕ) → f < 256 → (f + 256 * k) % 256 ≡ f
low f k h = add-mul-mod_self_left f 256 k ∙ mod-eq_of_lt h

high : (f k : ℕ) → f < 256 → k < 256 → (f + 256 * k) / 256 % 256 ≡ k
high f k hf hk =
    let b : (f + 256 * k) / 256 ≡ k = add-mul-div_left f k (lit< tt) ∙ ap (λ (x : ℕ). x + k) (div-eq_of_lt hf) ∙ zero-add k in
    rw (b, mod-eq_of_lt hk)

-- ---- labels

flags_small : (to : Target) (option : Bool) → flags to option < 256
flags_small Everyone true = omega arith
flags_small Everyone false = omega arith
flags_small Selected true = omega arith
flags_small Selected false = omega arith
flags_small One true = omega arith
flags_small One false = omega arith

uid_small : (to : Target) → uid_count to ≤ 8
uid_small Everyone = omega arith
uid_small Selected = omega arith
uid_small One = omega arith

uid_is_part : (to : Target) (uid : List ℕ) → length uid ≡ 8 → take (uid_count to) uid ≡ uid_part to uid
uid_is_part Everyone uid e = refl
uid_is_part Selected uid e = refl
uid_is_part One uid e = take_all 8 uid (omega arith)

flat : (u q d : List ℕ) → ((u ++ q) ++ []) ++ d ≡ u ++ (q ++ d)
flat u q d = simp (append-nil, append_assoc)

-- the parameters, as many as there are
par_part : (k p q : ℕ) → k ≤ 2 → p < 256 → q < 256 → bytes_of k (p + 256 * q) ≡ take k (p ∷ q ∷ [])
par_part zero p q h r s = refl
par_part (suc zero) p q h r s = rw (low p q r)
par_part (suc (suc zero)) p q h r s = rw (low p q r, high p q r s)
par_part (suc (suc (suc k))) p q h r s = absurd (omega arith)

data_part : (block : Bool) (d : List ℕ) → take (if block then length d else 0) d ≡ (if block then d else [])
data_part true d = take-length d
data_part false d = refl

label_parts : (to : Target) (option : Bool) (task : Task) (p : Params) (uid d : List ℕ) → (p.first < 256) × (p.second < 256) → length uid ≡ 8
    → parts_of (label_plan to option (row_of task) p (length d)) uid d ≡ flags to option ∷ (row_of task).code ∷ (uid_part to uid ++ params (row_of task) p d)
unfolding parts_of
label_parts to option task p uid d r l =
    let f = flags to option in
    let s = flags_small to option in
    let row = row_of task in
    let ok = row_fine task in
    rw (
      low f row.code s,
      high f row.code s ok.byte,
      uid_is_part to uid l,
      par_part (row.len - 4) p.first p.second (omega arith) r.0 r.1,
      data_part row.block d,
    )
    (ap (λ (x : List ℕ). f ∷ row.code ∷ x) (flat (uid_part to uid) (parameters row p) (if row.block then d else [])))

-- ---- chips

pair_parts : (f k n : ℕ) (uid d : List ℕ) → f < 256 → k < 256 → parts_of (short_plan (low_of (f + 256 * k) 2) n) uid d ≡ f ∷ k ∷ take n d
unfolding parts_of
pair_parts f k n uid d hf hk = rw (low f k hf, high f k hf hk)

one_parts : (f : ℕ) (uid d : List ℕ) → f < 256 → parts_of (short_plan (low_of f 1) 0) uid d ≡ f ∷ []
unfolding parts_of
one_parts f uid d h = rw (mod-eq_of_lt h)

chip_parts : (task : ChipTask) (uid d : List ℕ) → chip_fits task (length d) ≡ true → RangedChip task
    → parts_of (chip_plan task (length d)) uid d ≡ chip_bytes task d
unfolding chip_plan RangedChip
chip_parts p.Initiate uid d v r = pair_parts 0x06 0x00 0 uid d (lit< tt) (lit< tt)
chip_parts p.Pcall uid d v r = pair_parts 0x06 0x04 0 uid d (lit< tt) (lit< tt)
chip_parts (p.Marker s) uid d v r = one_parts (s * 16 + 6) uid d (omega (arith, marker_small s (length d) v))
chip_parts (p.Select id) uid d v r = pair_parts 0x0E id 0 uid d (lit< tt) r
chip_parts p.Completion uid d v r = one_parts 0x0F uid d (lit< tt)
chip_parts p.Reset uid d v r = one_parts 0x0C uid d (lit< tt)
chip_parts (p.Read a) uid d v r = pair_parts 0x08 a 0 uid d (lit< tt) r
chip_parts p.Uid uid d v r = one_parts 0x0B uid d (lit< tt)
chip_parts (p.Write a) uid d v r = pair_parts 0x09 a (length d) uid d (lit< tt) r ∙ rw take-length

-- ---- Inventory

slot_small : (f : ℕ) (sixteen : Bool) → f < 200 → f + (if sixteen then 0 else 32) < 256
slot_small f true h = omega arith
slot_small f false h = omega arith

inventory_parts : (family : Family) (sixteen : Bool) (bits mask : ℕ) (uid d : List ℕ) → bits ≤ 64 → RangedFamily family
    → parts_of (inventory_plan family sixteen bits mask) uid d ≡ inventory_bytes family sixteen bits mask
unfolding parts_of inventory_plan RangedFamily
inventory_parts Any sixteen bits mask uid d h r =
    let f = 6 + (if sixteen then 0 else 32) in
    let s = slot_small 6 sixteen (lit< tt) in
    let b : bits < 256 = omega arith in
    rw (low f 1 s, high f 1 s (lit< tt), mod-eq_of_lt b) (ap (λ (l : List ℕ). f ∷ 1 ∷ bits ∷ l) (append-nil (bytes_of (bytes_for bits) mask)))
inventory_parts (Only afi) sixteen bits mask uid d h r =
    let f = 22 + (if sixteen then 0 else 32) in
    let s = slot_small 22 sixteen (lit< tt) in
    rw (low f 1 s, high f 1 s (lit< tt), low afi bits r, high afi bits r (omega arith))
    (ap (λ (l : List ℕ). f ∷ 1 ∷ afi ∷ bits ∷ l) (append-nil (bytes_of (bytes_for bits) mask)))

-- ---- any command

pub plan_right : (c : Command) (uid d : List ℕ) → valid c (length d) ≡ true → Ranged c → length uid ≡ 8 → parts_of (plan_of c (length d)) uid d ≡ content c uid d
unfolding plan_of content Ranged parts_of
plan_right (Inventory to option family sixteen bits mask) uid d v r l =
    inventory_parts family sixteen bits mask uid d (valid_inventory to option family sixteen bits mask (length d) v).long r
plan_right (Label to option task p) uid d v r l = label_parts to option task p uid d r l
plan_right (Chip to option task) uid d v r l = chip_parts task uid d (valid_chip to option task (length d) v) r
plan_right (Other kind code) uid d v r l = refl

-- ---- a plan of a command that has a request fits the least room

data_small : (row : Row) (n : ℕ) → data_fits row n ≡ true → ((if row.block then n else 0) ≤ 32) × ((if row.block then n else 0) ≤ n)
data_small row n v = go row.block refl
  where
    go : (b : Bool) → row.block ≡ b → ((if b then n else 0) ≤ 32) × ((if b then n else 0) ≤ n)
    go true e = ((block_long row n e v).1, omega arith)
    go false e = (omega arith, omega arith)

label_fits : (to : Target) (option : Bool) (task : Task) (p : Params) (n room : ℕ) → data_fits (row_of task) n ≡ true → 64 ≤ room
    → PlanFits (label_plan to option (row_of task) p n) n room
label_fits to option task p n room v h =
    let d = data_small (row_of task) n v in
    let ok = row_fine task in
    record { uid = uid_small to; sent = d.1; whole = omega (arith, uid_small to) }

short_fits : (w k n x room : ℕ) → k ≤ 2 → n ≤ 4 → n ≤ x → 64 ≤ room → PlanFits (short_plan (low_of w k) n) x room
short_fits w k n x room a b d h = record { uid = omega arith; sent = d; whole = omega arith }

chip_does_fit : (task : ChipTask) (n room : ℕ) → chip_fits task n ≡ true → 64 ≤ room → PlanFits (chip_plan task n) n room
unfolding chip_plan
chip_does_fit p.Initiate n room v h = short_fits _ 2 0 n room (omega arith) (omega arith) (omega arith) h
chip_does_fit p.Pcall n room v h = short_fits _ 2 0 n room (omega arith) (omega arith) (omega arith) h
chip_does_fit (p.Marker s) n room v h = short_fits _ 1 0 n room (omega arith) (omega arith) (omega arith) h
chip_does_fit (p.Select id) n room v h = short_fits _ 2 0 n room (omega arith) (omega arith) (omega arith) h
chip_does_fit p.Completion n room v h = short_fits _ 1 0 n room (omega arith) (omega arith) (omega arith) h
chip_does_fit p.Reset n room v h = short_fits _ 1 0 n room (omega arith) (omega arith) (omega arith) h
chip_does_fit (p.Read a) n room v h = short_fits _ 2 0 n room (omega arith) (omega arith) (omega arith) h
chip_does_fit p.Uid n room v h = short_fits _ 1 0 n room (omega arith) (omega arith) (omega arith) h
chip_does_fit (p.Write a) n room v h = short_fits _ 2 n n room (omega arith) (omega (arith, (write_listed a n v).0)) (omega arith) h

bytes_8 : (bits : ℕ) → bits ≤ 64 → bytes_for bits ≤ 8
unfolding bytes_for
bytes_8 bits h = omega arith

inventory_fits : (family : Family) (sixteen : Bool) (bits mask n room : ℕ) → bits ≤ 64 → 64 ≤ room → PlanFits (inventory_plan family sixteen bits mask) n room
unfolding inventory_plan
inventory_fits Any sixteen bits mask n room h r = record { uid = omega arith; sent = omega arith; whole = omega (arith, bytes_8 bits h) }
inventory_fits (Only afi) sixteen bits mask n room h r = record { uid = omega arith; sent = omega arith; whole = omega (arith, bytes_8 bits h) }

pub plan_fits : (c : Command) (n room : ℕ) → valid c n ≡ true → 64 ≤ room → PlanFits (plan_of c n) n room
unfolding plan_of
plan_fits (Inventory to option family sixteen bits mask) n room v h =
    inventory_fits family sixteen bits mask n room (valid_inventory to option family sixteen bits mask n v).long h
plan_fits (Label to option task p) n room v h = label_fits to option task p n room (valid_label to option task p n v).count h
plan_fits (Chip to option task) n room v h = chip_does_fit task n room (valid_chip to option task n v) h
plan_fits (Other kind code) n room v h = short_fits 0 0 0 n room (omega arith) (omega arith) (omega arith) h

-- ---- the straight line of puts, from what each ensures

parts_long : (q : Plan) (uid d : List ℕ) → q.uids ≤ length uid → q.datas ≤ length d
    → length (parts_of q uid d) ≡ q.head.bytes + q.uids + q.par.bytes + q.mask.bytes + q.datas
unfolding parts_of
parts_long q uid d hu hd = simp (length-append, length_bytes, length-take-le q.uids uid hu, length-take-le q.datas d hd)

pub lay_way : (q : Plan) (uid d old : List ℕ) {x1 x2 x3 x4 x5 x6 : List ℕ} {a1 a2 a3 a4 a5 a6 : ℕ} → PlanFits q (length d) (length old) → length uid ≡ 8
    → (a1 ≡ 0 + q.head.bytes) × (x1 ≡ sets old 0 (bytes_of q.head.bytes q.head.number))
    → (a2 ≡ a1 + q.uids) × (x2 ≡ sets x1 a1 (take q.uids uid))
    → (a3 ≡ a2 + q.par.bytes) × (x3 ≡ sets x2 a2 (bytes_of q.par.bytes q.par.number))
    → (a4 ≡ a3 + q.mask.bytes) × (x4 ≡ sets x3 a3 (bytes_of q.mask.bytes q.mask.number))
    → (a5 ≡ a4 + q.datas) × (x5 ≡ sets x4 a4 (take q.datas d))
    → (a6 ≡ a5 + 2) × (x6 ≡ sets x5 a5 (bytes_of 2 (crc_of (take a5 x5))))
    → (a6 ≡ length (framed (parts_of q uid d)))
    × (x6 ≡ at_front (framed (parts_of q uid d)) old)
unfolding parts_of
lay_way q uid d old ok lu e1 e2 e3 e4 e5 e6 =
    let hu : q.uids ≤ length uid = omega arith in
    let w : length (parts_of q uid d) + 2 ≤ length old = omega (arith, parts_long q uid d hu ok.sent) in
    let l =
    laid_seal 0xFFFF true
    (laid_bytes q.datas d ok.sent
    (laid_number q.mask.bytes q.mask.number
    (laid_number q.par.bytes q.par.number
    (laid_bytes q.uids uid hu
    (laid_number q.head.bytes q.head.number (laid_none old) e1) e2) e3) e4) e5)
    (omega arith) e6
    in
    (l.long, laid_done l (rw length_framed w))
