-- The reading for what is heard in the frame that was written for a command is the reading for that command, whatever the answer. So what a
-- well-formed tag gives to it is read to what the tag means by it (`given_read` of the reader). Assumes nothing.
use mathlib.Core.Path.{◌≡◌, refl, ap₂, ◌∙◌}
use mathlib.Core.Bool.{Bool, true, false, not, ◌&&◌, ◌||◌}
use mathlib.Core.List.{List}
use Prim.Native.Nat.{ℕ, ◌+◌}
use lib.Dec.{eqb, ltb, leb}
use lib.ListN.{length}
use Rattle.frame.proofs.Bools.{and_both, or_right}
use Rattle.request.specs.Table.{row_of}
use Rattle.request.specs.Chip.{listed}
use Rattle.request.specs.Signal.{signal_of}
use Rattle.request.specs.declared.table.Task.{Task}
use Rattle.request.specs.declared.table.Task.TheVariants as t
use Rattle.request.specs.declared.table.Row.{Row}
use Rattle.request.specs.declared.label.Params.{Params}
use Rattle.request.specs.declared.label.Target.{Target}
use Rattle.request.specs.declared.label.Target.TheVariants.{Everyone, Selected, One}
use Rattle.request.specs.declared.label.Request.{Request}
use Rattle.reader.specs.declared.command.ChipTask.{ChipTask}
use Rattle.reader.specs.declared.command.ChipTask.TheVariants as p
use Rattle.reader.specs.declared.command.Command.{Command}
use Rattle.reader.specs.declared.command.Command.TheVariants as c
use Rattle.reader.specs.Command.{everyone, range_fits, label_fits, chip_fits, valid}
use Rattle.reader.specs.Request as request
use Rattle.reader.specs.Request.{uid_meant, label_meant, encode, event_for, label_takes}
use Rattle.reader.proofs.CommandValid.{valid_label}
use Rattle.answer.specs.Answer.{owned, info_of, success_of, label_reading, shape_of, reading_of}
use Rattle.accord.specs.Tags.{Gives, given_meaning}
use Rattle.accord.proofs.RequestTaken.{taken}
use Rattle.accord.proofs.TagsCommand.{given_read}
use Rattle.tell.specs.Commands.{reading_for}
use Rattle.tell.proofs.CommandAsked.{carried, taken_two, asked_again}

-- ---- four bytes of data are right for every command that has a request with some

chip_four : (task : ChipTask) (n : ℕ) → chip_fits task n ≡ true → chip_fits task 4 ≡ true
unfolding chip_fits
chip_four p.Initiate n e = e
chip_four p.Pcall n e = e
chip_four (p.Marker x) n e = e
chip_four (p.Select id) n e = e
chip_four p.Completion n e = e
chip_four p.Reset n e = e
chip_four (p.Read a) n e = e
chip_four p.Uid n e = e
chip_four (p.Write a) n e = (and_both (eqb n 4) (listed a) e).1

range_four : (row : Row) (p : Params) → range_fits row p ≡ true → range_fits row (request.taken row p) ≡ true
range_four row p v = go (ltb row.len 6) refl v
  where
    go : (t : Bool) → ltb row.len 6 ≡ t → (t || leb (p.first + p.second) 255) ≡ true → range_fits row (request.taken row p) ≡ true
    go true e w = rw e
    go false e w = rw (taken_two row p e, e) w

valid_four : (command : Command) (n : ℕ) → valid command n ≡ true → valid (carried command) 4 ≡ true
unfolding valid label_fits
valid_four (c.Inventory to option family sixteen bits mask) n v = v
valid_four (c.Label to option task p) n v =
    let f = valid_label to option task p n v in
    rw (f.allowed, f.target, or_right (not (row_of task).block) true refl) (range_four (row_of task) p f.range)
valid_four (c.Chip to option task) n v =
    let a = and_both (not option) (everyone to && chip_fits task n) v in
    let b = and_both (everyone to) (chip_fits task n) a.1 in
    rw (a.0, b.0) (chip_four task n b.1)
valid_four (c.Other kind code) n v = v

-- ---- the UID counts where the target is one UID

owned_meant : (to : Target) (uid u : List ℕ) → owned to (uid_meant to uid) u ≡ owned to uid u
owned_meant Everyone uid u = refl
owned_meant Selected uid u = refl
owned_meant One uid u = refl

-- .. and the count where the task has one
success_meant : (to : Target) (option : Bool) (task : Task) (p : Params) (uid x : List ℕ)
    → success_of to option (row_of task).success (request.taken (row_of task) p).second (uid_meant to uid) x
    ≡ success_of to option (row_of task).success p.second uid x
unfolding row_of request.taken success_of info_of
success_meant to option t.Quiet p uid x = refl
success_meant to option t.Read p uid x = refl
success_meant to option t.Write p uid x = refl
success_meant to option t.Lock p uid x = refl
success_meant to option t.ReadMany p uid x = refl
success_meant to option t.Select p uid x = refl
success_meant to option t.Ready p uid x = refl
success_meant to option t.WriteAfi p uid x = refl
success_meant to option t.LockAfi p uid x = refl
success_meant to option t.WriteDsfid p uid x = refl
success_meant to option t.LockDsfid p uid x = refl
success_meant to option t.Info p uid x = rw owned_meant
success_meant to option t.Status p uid x = refl

shape_meant : (command : Command) (uid x : List ℕ) → shape_of (carried command) (label_takes command uid).uid x ≡ shape_of command uid x
unfolding shape_of label_takes label_meant label_reading
shape_meant (c.Inventory to option family sixteen bits mask) uid x = refl
shape_meant (c.Label to option task p) uid x = rw success_meant
shape_meant (c.Chip to option task) uid x = refl
shape_meant (c.Other kind code) uid x = refl

-- ---- the reading

reading_meant : (command : Command) (uid g : List ℕ) (n : ℕ) → valid command n ≡ true
    → reading_of (carried command) (label_takes command uid).uid 4 g ≡ reading_of command uid n g
unfolding reading_of
reading_meant command uid g n v = rw (valid_four command n v, v, shape_meant)

pub reading_again : (command : Command) (uid d g : List ℕ) → valid command (length d) ≡ true → length uid ≡ 8
    → reading_for (event_for command) (signal_of (event_for command) (encode command uid d)) g ≡ reading_of command uid (length d) g
unfolding reading_for
reading_again command uid d g v h =
    ap₂ (λ (x : Command) (y : Request). reading_of x y.uid 4 g) (asked_again command uid d v h) (taken command uid d v h).of_labels
    ∙ reading_meant command uid g (length d) v

-- what a well-formed tag gives to a command is told as what the tag means by it
pub given_told : (command : Command) (uid d g : List ℕ) → valid command (length d) ≡ true → length uid ≡ 8
    → (y : Gives command (encode command uid d) g)
    → reading_for (event_for command) (signal_of (event_for command) (encode command uid d)) g ≡ given_meaning command (encode command uid d) g y
given_told command uid d g v h y = reading_again command uid d g v h ∙ given_read command uid d g v h y
