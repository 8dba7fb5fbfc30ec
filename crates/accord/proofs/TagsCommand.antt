-- Of any command: what a well-formed tag gives is read to what the tag means by it, and a success that is read is one that a well-formed tag gives.
-- Assumes nothing.
use mathlib.Core.Path.{◌≡◌, refl, sym, ap, ◌∙◌}
use mathlib.Core.Logic.{inl, inr}
use mathlib.Core.Bool.{Bool, true, false, not, ◌&&◌, false≢true}
use mathlib.Core.List.{List, []}
use Prim.Native.Nat.{ℕ}
use lib.Dec.{eqb, ltb}
use lib.ListN.{length, get_or}
use Rattle.frame.specs.Number.{part, Bytes}
use Rattle.frame.specs.CheckSum.{right, content}
use Rattle.frame.specs.Ending.{ends_in}
use Rattle.frame.proofs.Bools.{if_both}
use Rattle.request.specs.declared.label.Target.{Target}
use Rattle.request.specs.declared.label.Family.{Family}
use Rattle.label.specs.declared.step.Answer as label
use Rattle.label.specs.declared.step.Answer.TheVariants as a
use Rattle.label_body.specs.Answer as labelAnswer
use Rattle.chip.specs.declared.step.Answer as chip
use Rattle.chip.specs.declared.step.Answer.TheVariants as x
use Rattle.chip_body.specs.Answer as chipAnswer
use Rattle.reader.specs.declared.command.Command.{Command}
use Rattle.reader.specs.declared.command.Command.TheVariants.{Inventory, Label, Chip, Other}
use Rattle.reader.specs.Command.{valid}
use Rattle.reader.specs.Request.{encode}
use Rattle.reader.specs.Plan.{Ranged}
use Rattle.answer.specs.declared.reading.Meaning.{Meaning}
use Rattle.answer.specs.declared.reading.Meaning.TheVariants as m
use Rattle.answer.specs.declared.reading.Reading.{Reading}
use Rattle.answer.specs.Answer.{number_of, success, found_of, shape_of, reading_of}
use Rattle.accord.specs.Tags.{label_meaning, chip_meaning, bytes_told, Gives, given_meaning, given_bytes}
use Rattle.accord.proofs.AnswerRight.{fits_either, told_right}
use Rattle.accord.proofs.TagsLabelRead.{label_gives, label_gives_bytes, inventory_gives, slot_gives}
use Rattle.accord.proofs.TagsChipRead.{chip_gives}
use Rattle.accord.proofs.TagsLabelGiven.{label_given, one_slot_given, sixteen_given}
use Rattle.accord.proofs.TagsChipGiven.{chip_given}

-- ---- what is given is read

-- what a well-formed tag gives to a command is read to what the tag means by it, its errors too ..
pub given_read : (command : Command) (uid d g : List ℕ) → valid command (length d) ≡ true → length uid ≡ 8
    → (y : Gives command (encode command uid d) g) → reading_of command uid (length d) g ≡ given_meaning command (encode command uid d) g y
unfolding Gives given_meaning
given_read (Inventory to option family true bits mask) uid d g v h (inl y) = inventory_gives to option family true bits mask uid d g v y
given_read (Inventory to option family true bits mask) uid d g v h (inr y) = slot_gives to option family bits mask uid d g v y
given_read (Inventory to option family false bits mask) uid d g v h y = inventory_gives to option family false bits mask uid d g v y
given_read (Label to option task p) uid d g v h y = label_gives to option task p uid d g v h y
given_read (Chip to option task) uid d g v h y = chip_gives to option task uid d g v y
given_read (Other kind code) uid d g v h y = absurd y

found_bytes : (to : Target) (option : Bool) (family : Family) (sixteen : Bool) (bits mask : ℕ) (uid : List ℕ) (n : ℕ) (g : List ℕ)
    → bytes_told (reading_of (Inventory to option family sixteen bits mask) uid n g).meaning g ≡ []
unfolding reading_of shape_of found_of bytes_told
found_bytes to option family sixteen bits mask uid n g =
    let P : Reading → Type 0 = λ r. bytes_told r.meaning g ≡ [] in
    let c = content g in
    if_both P (not (valid (Inventory to option family sixteen bits mask) n)) refl
    (if_both P (ltb (length g) 3) refl
    (if_both P (not (right g)) refl
    (fits_either P (eqb (length c) 10 && (eqb (get_or c 0 0) 0 && ends_in (part 2 8 c) mask bits)) _ refl refl)))

chip_bytes : (y : chip.Answer) (b g : List ℕ) → bytes_told (chip_meaning y b).meaning g ≡ []
unfolding chip_meaning bytes_told
chip_bytes x.Silent b g = refl
chip_bytes (x.Id id) b g = refl
chip_bytes (x.Block n) b g = refl
chip_bytes x.Uid b g = refl

-- .. and the bytes whose place the reading tells are those of the blocks that it gives
pub given_are_bytes : (command : Command) (uid d g : List ℕ) → valid command (length d) ≡ true → length uid ≡ 8
    → (y : Gives command (encode command uid d) g)
    → bytes_told (reading_of command uid (length d) g).meaning g ≡ given_bytes command (encode command uid d) g y
unfolding Gives given_bytes
given_are_bytes (Inventory to option family sixteen bits mask) uid d g v h y = found_bytes to option family sixteen bits mask uid (length d) g
given_are_bytes (Label to option task p) uid d g v h y = label_gives_bytes to option task p uid d g v h y
given_are_bytes (Chip to option task) uid d g v h y =
    ap (λ (r : Reading). bytes_told r.meaning g) (chip_gives to option task uid d g v y) ∙ chip_bytes _ y.body g
given_are_bytes (Other kind code) uid d g v h y = absurd y

-- ---- and is a success, unless it is an error

abbrev Plain : Reading → Type 0
Plain r = ((code : ℕ) → r.meaning ≡ m.Error code → ⊥) → success r.meaning ≡ true

label_plain : (y : label.Answer) (b : List ℕ) → labelAnswer.speaks y ≡ true → Plain (label_meaning y b)
unfolding label_meaning success
label_plain a.Silent b s h = absurd (false≢true s)
label_plain (a.Error code) b s h = absurd (h code refl)
label_plain a.Done b s h = refl
label_plain a.Found b s h = refl
label_plain (a.Block n true) b s h = refl
label_plain (a.Block n false) b s h = refl
label_plain (a.Blocks n more) b s h = refl
label_plain (a.LocksAndBlocks n more) b s h = refl
label_plain (a.Locks n more) b s h = refl
label_plain a.Info b s h = refl

chip_plain : (y : chip.Answer) (b : List ℕ) → chipAnswer.speaks y ≡ true → Plain (chip_meaning y b)
unfolding chip_meaning success
chip_plain x.Silent b s h = absurd (false≢true s)
chip_plain (x.Id id) b s h = refl
chip_plain (x.Block n) b s h = refl
chip_plain x.Uid b s h = refl

-- no tag means a refusal by what it gives
meant_plain : (command : Command) (f g : List ℕ) (y : Gives command f g) → Plain (given_meaning command f g y)
unfolding Gives given_meaning
meant_plain (Inventory to option family true bits mask) f g (inl y) = label_plain _ _ y.speaks
meant_plain (Inventory to option family true bits mask) f g (inr y) = label_plain _ _ y.speaks
meant_plain (Inventory to option family false bits mask) f g y = label_plain _ _ y.speaks
meant_plain (Label to option task p) f g y = label_plain _ _ y.speaks
meant_plain (Chip to option task) f g y = chip_plain _ _ y.speaks
meant_plain (Other kind code) f g y = absurd y

-- what a well-formed tag gives is read as a success, unless it is an error
pub given_success : (command : Command) (uid d g : List ℕ) → valid command (length d) ≡ true → length uid ≡ 8 → Gives command (encode command uid d) g
    → ((code : ℕ) → (reading_of command uid (length d) g).meaning ≡ m.Error code → ⊥) → success (reading_of command uid (length d) g).meaning ≡ true
given_success command uid d g v h y ne =
    let e = ap (λ (r : Reading). r.meaning) (given_read command uid d g v h y) in
    ap success e ∙ meant_plain command (encode command uid d) g y (λ code q. ne code (e ∙ q))

-- ---- what is read as a success is given

success_numbered : (y : Meaning) → success y ≡ true → number_of y ≡ 0
unfolding success
success_numbered (m.Refused n) h = absurd (false≢true h)
success_numbered (m.Error code) h = refl
success_numbered m.Done h = refl
success_numbered (m.Found dsfid) h = refl
success_numbered (m.Block place long) h = refl
success_numbered (m.LockAndBlock lock place long) h = refl
success_numbered (m.Info dsfid afi blocks size ic) h = refl
success_numbered (m.Id id) h = refl
success_numbered (m.Word word) h = refl
success_numbered m.Uid h = refl
success_numbered (m.Blocks place long count) h = refl
success_numbered (m.LocksAndBlocks place long count) h = refl
success_numbered (m.Locks place count) h = refl

success_no_error : (y : Meaning) → success y ≡ true → (code : ℕ) → y ≡ m.Error code → ⊥
unfolding success
success_no_error y h code e = false≢true (sym (ap success e) ∙ h)

-- a success that is read to a command is one that a well-formed tag gives to it
pub read_given : (command : Command) (uid d g : List ℕ) → length uid ≡ 8 → Bytes uid → Ranged command → Bytes g
    → success (reading_of command uid (length d) g).meaning ≡ true → Gives command (encode command uid d) g
unfolding Gives Ranged valid
read_given (Inventory to option family true bits mask) uid d g hu bu r bs h = sixteen_given to option family bits mask uid d g r bs (success_numbered _ h)
read_given (Inventory to option family false bits mask) uid d g hu bu r bs h = one_slot_given to option family bits mask uid d g r bs (success_numbered _ h)
read_given (Label to option task p) uid d g hu bu r bs h =
    label_given to option task p uid d g hu bu r.0 bs (success_numbered _ h) (success_no_error _ h)
read_given (Chip to option task) uid d g hu bu r bs h = chip_given to option task uid d g bs (success_numbered _ h)
read_given (Other kind code) uid d g hu bu r bs h =
    absurd (false≢true (told_right (Other kind code) uid (length d) g bs (success_numbered _ h)).fields)
