-- Each answer that some well-formed chip gives to a command is read to what it means: by the ends of its step, each silent or an answer whose reading is known.
-- Assumes nothing.
use mathlib.Core.Path.{◌≡◌, sym, ap, ◌∙◌}
use mathlib.Core.Bool.{Bool, true, not, ◌||◌, false≢true}
use mathlib.Core.List.{List}
use Prim.Native.Nat.{ℕ, ◌+◌, ◌*◌, ◌/◌, ◌%◌}
use native.Mathlib.Omega.{arith}
use lib.Dec.{eqb}
use lib.ListN.{length}
use borrow.Author.Tests.{eqb-true}
use Rattle.frame.specs.Number.{num, part}
use Rattle.frame.proofs.Bools.{if_either}
use Rattle.request.specs.declared.label.Target.{Target}
use Rattle.request.specs.declared.chip.Order.{Order}
use Rattle.request.specs.declared.chip.Order.TheVariants as o
use Rattle.request.specs.Chip.{decode}
use Rattle.chip.specs.declared.step.Chip.{Chip}
use Rattle.chip.specs.declared.step.Answer.TheVariants as a
use Rattle.chip.specs.declared.step.Stepped.{Stepped}
use Rattle.chip.specs.Write.{locked}
use Rattle.chip.specs.Step as step
use Rattle.chip_body.specs.Body as chip
use Rattle.chip_body.specs.Answer.{answer_frame}
use Rattle.reader.specs.declared.command.ChipTask.{ChipTask}
use Rattle.reader.specs.declared.command.ChipTask.TheVariants as p
use Rattle.reader.specs.declared.command.Command.{Command}
use Rattle.reader.specs.declared.command.Command.TheVariants as c
use Rattle.reader.specs.Command.{valid}
use Rattle.reader.specs.Request.{encode, chip_meant, chip_takes}
use Rattle.answer.specs.Answer.{reading_of}
use Rattle.accord.specs.Tags.{chip_meaning, chip_says, ChipGives}
use Rattle.accord.proofs.RequestMeant.{chip_is_meant}
use Rattle.accord.proofs.AnswerRead.{none_read, initiate_read, pcall_read, marker_read, select_read, word_read, uid_read}

module _ (to : Target) (option : Bool) (uid : List ℕ) (n : ℕ) (b : List ℕ) where
  -- an end of b's step whose answer is read to what it means
  abbrev ReadAs : ChipTask → Stepped → Type 0
  ReadAs task s = reading_of (c.Chip to option task) uid n (answer_frame s.answer b) ≡ chip_meaning s.answer b

  none_told : (task : ChipTask) → valid (c.Chip to option task) n ≡ true
      → reading_of (c.Chip to option task) uid n (answer_frame a.Silent b) ≡ chip_meaning a.Silent b
  unfolding answer_frame chip_meaning
  none_told task v = none_read (c.Chip to option task) uid n v

  leave_told : (task : ChipTask) → valid (c.Chip to option task) n ≡ true → (state : ℕ) (x : Chip) → ReadAs task (step.leave state x)
  unfolding step.leave
  leave_told task v state x =
      if_either (ReadAs task) (not (eqb x.state 3)) _ _ (λ q. none_told task v) (λ q. none_told task v)

  chip_told : (task : ChipTask) (d : List ℕ) (draw : ℕ) → valid (c.Chip to option task) n ≡ true → length b ≡ 80
      → ReadAs task (chip.stepped (chip_meant task d) draw b)
  unfolding chip.stepped step.act chip_meant step.initiate step.pcall step.marker step.select step.read step.uid step.write chip_meaning
  chip_told p.Initiate d draw v h =
      let x = chip.load_of b in
      if_either (ReadAs p.Initiate) (eqb x.state 1 || eqb x.state 2) _ _
      (λ q. initiate_read to option uid n b (step.chosen draw x) v) (λ q. none_told p.Initiate v)
  chip_told p.Pcall d draw v h =
      let x = chip.load_of b in
      let r = step.chosen draw x % 16 in
      if_either (ReadAs p.Pcall) (not (eqb x.state 2)) _ _ (λ q. none_told p.Pcall v)
      (λ q. if_either (ReadAs p.Pcall) (eqb r 0) _ _
      (λ q. let z : r ≡ 0 = eqb-true r 0 q in pcall_read to option uid n b (x.id / 16 * 16 + r) v (omega arith))
      (λ q. none_told p.Pcall v))
  chip_told (p.Marker k) d draw v h =
      let x = chip.load_of b in
      let P = ReadAs (p.Marker k) in
      if_either P (not (eqb x.state 2)) _ _ (λ q. none_told (p.Marker k) v)
      (λ q. if_either P (eqb (x.id % 16) k) _ _ (λ q. marker_read to option uid n b k x.id v (eqb-true (x.id % 16) k q))
      (λ q. none_told (p.Marker k) v))
  chip_told (p.Select id) d draw v h =
      let x = chip.load_of b in
      let P = ReadAs (p.Select id) in
      if_either P (not (eqb x.id id)) _ _ (λ q. leave_told (p.Select id) v 4 x)
      (λ q. if_either P (eqb x.state 2 || (eqb x.state 3 || eqb x.state 4)) _ _ (λ q. select_read to option uid n b id v)
      (λ q. none_told (p.Select id) v))
  chip_told p.Completion d draw v h = leave_told p.Completion v 5 (chip.load_of b)
  chip_told p.Reset d draw v h = leave_told p.Reset v 2 (chip.load_of b)
  chip_told (p.Read k) d draw v h =
      let x = chip.load_of b in
      if_either (ReadAs (p.Read k)) (not (eqb x.state 3)) _ _ (λ q. none_told (p.Read k) v) (λ q. word_read to option uid n b k v h)
  chip_told p.Uid d draw v h =
      let x = chip.load_of b in
      if_either (ReadAs p.Uid) (not (eqb x.state 3)) _ _ (λ q. none_told p.Uid v) (λ q. uid_read to option uid n b v h)
  chip_told (p.Write k) d draw v h =
      let x = chip.load_of b in
      let P = ReadAs (p.Write k) in
      if_either P (not (eqb x.state 3)) _ _ (λ q. none_told (p.Write k) v)
      (λ q. if_either P (locked (num (part 64 4 b)) k) _ _ (λ q. none_told (p.Write k) v) (λ q. none_told (p.Write k) v))

-- ---- any command

-- to nothing that was asked a chip says nothing
ignored_read : (command : Command) (uid : List ℕ) (n : ℕ) → valid command n ≡ true → (draw : ℕ) (b : List ℕ)
    → reading_of command uid n (answer_frame (chip.said_chip o.Ignored draw b) b) ≡ chip_meaning (chip.said_chip o.Ignored draw b) b
unfolding chip.said_chip chip.stepped step.act answer_frame chip_meaning
ignored_read command uid n v draw b = none_read command uid n v

takes_read : (command : Command) (uid d : List ℕ) (n : ℕ) → valid command n ≡ true → (draw : ℕ) (b : List ℕ) → length b ≡ 80
    → reading_of command uid n (answer_frame (chip.said_chip (chip_takes command d) draw b) b) ≡ chip_meaning (chip.said_chip (chip_takes command d) draw b) b
unfolding chip_takes chip.said_chip valid
takes_read (c.Inventory to option family sixteen bits mask) uid d n v draw b h =
    ignored_read (c.Inventory to option family sixteen bits mask) uid n v draw b
takes_read (c.Label to option task p) uid d n v draw b h = ignored_read (c.Label to option task p) uid n v draw b
takes_read (c.Chip to option task) uid d n v draw b h = chip_told to option uid n b task d draw v h
takes_read (c.Other kind code) uid d n v draw b h = absurd (false≢true v)

-- what a chip with a body of 80 bytes says to what a command asks of it is read to what it means, silence too
pub chip_read : (command : Command) (uid d : List ℕ) (n : ℕ) → valid command n ≡ true → (order : Order) → order ≡ chip_takes command d
    → (draw : ℕ) (b : List ℕ) → length b ≡ 80
    → reading_of command uid n (answer_frame (chip.said_chip order draw b) b) ≡ chip_meaning (chip.said_chip order draw b) b
chip_read command uid d n v order e draw b h = rw e (takes_read command uid d n v draw b h)

-- what a well-formed chip answers to a chip command is read to what it means
pub chip_gives : (to : Target) (option : Bool) (task : ChipTask) (uid d g : List ℕ) → valid (c.Chip to option task) (length d) ≡ true
    → (y : ChipGives (encode (c.Chip to option task) uid d) g)
    → reading_of (c.Chip to option task) uid (length d) g ≡ chip_meaning (chip_says (encode (c.Chip to option task) uid d) y.draw y.body) y.body
unfolding chip_takes
chip_gives to option task uid d g v y =
    let f = encode (c.Chip to option task) uid d in
    ap (reading_of (c.Chip to option task) uid (length d)) (sym y.says)
    ∙ chip_read (c.Chip to option task) uid d (length d) v (decode f) (chip_is_meant to option task uid d v) y.draw y.body y.long
