-- The command that is heard in the frame that was written for a command is that command again, up to the parameters that a task has not, which no
-- frame carries. Assumes nothing.
use mathlib.Core.Path.{◌≡◌, refl, sym, ap, ap₂, ◌∙◌}
use mathlib.Core.Bool.{Bool, true, false, not, ◌&&◌, ◌||◌, false≢true}
use mathlib.Core.List.{List, [], ◌∷◌}
use Prim.Native.Nat.{ℕ, zero, suc, ◌+◌, ◌-◌, ◌≤◌}
use native.Mathlib.Omega.{arith}
use lib.Dec.{ltb, leb}
use lib.ListN.{length, get_or, take}
use lib.Seq.{take_all}
use borrow.Author.Tests.{ltb-true, ltb-false}
use Rattle.frame.proofs.Bools.{if_same}
use Rattle.request.specs.Table.{row_of}
use Rattle.request.specs.Label.{both}
use Rattle.request.specs.Signal.{signal_of}
use Rattle.request.specs.declared.table.Row.{Row}
use Rattle.request.specs.declared.label.Params.{Params}
use Rattle.request.specs.declared.label.Target.{Target}
use Rattle.request.specs.declared.label.Target.TheVariants.{Everyone, Selected, One}
use Rattle.request.specs.declared.label.Request.{Request}
use Rattle.reader.specs.declared.command.ChipTask.{ChipTask}
use Rattle.reader.specs.declared.command.ChipTask.TheVariants as p
use Rattle.reader.specs.declared.command.Command.{Command}
use Rattle.reader.specs.declared.command.Command.TheVariants as c
use Rattle.reader.specs.Command.{everyone, range_fits, chip_fits, inventory_fits, valid}
use Rattle.reader.specs.Request as request
use Rattle.reader.specs.Request.{parameters, encode, label_meant, chip_meant, event_for, label_takes, chip_takes}
use Rattle.reader.proofs.CommandValid.{valid_label}
use Rattle.accord.proofs.RequestTaken.{taken}
use Rattle.tell.specs.Commands.{within, label_command, chip_command, command_of}

-- what a frame carries of a command: a parameter that a task has not is taken as 0
abbrev pub carried : Command → Command
carried (c.Inventory to option family sixteen bits mask) = c.Inventory to option family sixteen bits mask
carried (c.Label to option task p) = c.Label to option task (request.taken (row_of task) p)
carried (c.Chip to option task) = c.Chip to option task
carried (c.Other kind code) = c.Other kind code

-- the command that event `number` with the frame f asks
abbrev pub heard : ℕ → List ℕ → Command
heard number f = command_of number (signal_of number f)

-- Option where it is allowed
kept : (option allowed : Bool) → (not option || allowed) ≡ true → (option && allowed) ≡ option
kept true allowed e = e
kept false allowed e = refl

-- ---- the parameters that a frame carries: the first alone, or both

first_alone : (k a b : ℕ) → k ≤ 1 → get_or (take k (a ∷ b ∷ [])) 1 0 ≡ 0
first_alone zero a b h = refl
first_alone (suc zero) a b h = refl
first_alone (suc (suc k)) a b h = absurd (omega arith)

pub taken_one : (row : Row) (p : Params) → ltb row.len 6 ≡ true → request.taken row p ≡ both (get_or (parameters row p) 0 0) 0
unfolding request.taken
taken_one row p e =
    ap (both (get_or (parameters row p) 0 0)) (first_alone (row.len - 4) p.first p.second (omega (arith, ltb-true row.len 6 e)))

pub taken_two : (row : Row) (p : Params) → ltb row.len 6 ≡ false → request.taken row p ≡ p
unfolding request.taken
taken_two row p e =
    ap (λ (l : List ℕ). both (get_or l 0 0) (get_or l 1 0))
    (take_all (row.len - 4) (p.first ∷ p.second ∷ []) (omega (arith, ltb-false row.len 6 e)))

-- a first block alone is kept, and so are blocks up to 255
within_one : (n : ℕ) → within (both n 0) ≡ both n 0
unfolding within
within_one n = if_same (leb (n + 0) 255) (both n 0)

taken_within : (row : Row) (p : Params) → range_fits row p ≡ true → within (request.taken row p) ≡ request.taken row p
unfolding within
taken_within row p v = go (ltb row.len 6) refl v
  where
    go : (t : Bool) → ltb row.len 6 ≡ t → (t || leb (p.first + p.second) 255) ≡ true → within (request.taken row p) ≡ request.taken row p
    go true e w = rw (taken_one row p e) (within_one (get_or (parameters row p) 0 0))
    go false e w = rw (taken_two row p e, w) refl

-- ---- the command

chip_again : (task : ChipTask) (d : List ℕ) → chip_command (chip_meant task d) ≡ c.Chip Everyone false task
unfolding chip_command chip_meant
chip_again p.Initiate d = refl
chip_again p.Pcall d = refl
chip_again (p.Marker s) d = refl
chip_again (p.Select id) d = refl
chip_again p.Completion d = refl
chip_again p.Reset d = refl
chip_again (p.Read a) d = refl
chip_again p.Uid d = refl
chip_again (p.Write a) d = refl

-- what is for everyone, without Option
plain : (option : Bool) (to : Target) (fits : Bool) → (not option && (everyone to && fits)) ≡ true → (to ≡ Everyone) × (option ≡ false)
plain true to fits e = absurd (false≢true e)
plain false Everyone fits e = (refl, refl)
plain false Selected fits e = absurd (false≢true e)
plain false One fits e = absurd (false≢true e)

pub asked_again : (command : Command) (uid d : List ℕ) → valid command (length d) ≡ true → length uid ≡ 8
    → heard (event_for command) (encode command uid d) ≡ carried command
unfolding command_of label_command event_for label_takes label_meant chip_takes valid
asked_again (c.Inventory to option family sixteen bits mask) uid d v h =
    let e = plain option to (inventory_fits sixteen bits mask) v in
    ap (λ (r : Request). label_command r.call) (taken (c.Inventory to option family sixteen bits mask) uid d v h).of_labels
    ∙ sym (ap₂ (λ (x : Target) (y : Bool). c.Inventory x y family sixteen bits mask) e.0 e.1)
asked_again (c.Label to option task p) uid d v h =
    let f = valid_label to option task p (length d) v in
    ap (λ (r : Request). label_command r.call) (taken (c.Label to option task p) uid d v h).of_labels
    ∙ ap₂ (λ (x : Bool) (y : Params). c.Label to x task y) (kept option (row_of task).option f.allowed) (taken_within (row_of task) p f.range)
asked_again (c.Chip to option task) uid d v h =
    let e = plain option to (chip_fits task (length d)) v in
    ap chip_command (taken (c.Chip to option task) uid d v h).of_chips
    ∙ chip_again task d
    ∙ sym (ap₂ (λ (x : Target) (y : Bool). c.Chip x y task) e.0 e.1)
asked_again (c.Other kind code) uid d v h = absurd (false≢true v)
