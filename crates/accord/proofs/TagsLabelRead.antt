-- Each answer that some well-formed label gives to a command is read to what it means. A label's step is a chain of choices; each end of the chain is silent or
-- an answer whose reading is known, so the law of the step is the law of its ends.
-- Assumes nothing.
use mathlib.Core.Path.{◌≡◌, refl, sym, ap, subst, ◌∙◌}
use mathlib.Core.Bool.{Bool, true, false, not, ◌&&◌, false≢true}
use mathlib.Core.List.{List, []}
use Prim.Native.Nat.{ℕ, zero, suc, ◌+◌, ◌-◌, ◌/◌, ◌%◌, ◌^◌, ◌≤◌, ◌<◌}
use native.Mathlib.Omega.{arith}
use lib.Dec.{eqb, ltb}
use lib.ListN.{length, get_or}
use lib.Seq.{length-take-le}
use borrow.Author.Tests.{eqb-true, eqb-false, ltb-true, ltb-false}
use Rattle.frame.specs.Choose.{bit, set?}
use Rattle.frame.specs.Number.{num, part, Bytes}
use Rattle.frame.specs.Judge.{fine}
use Rattle.frame.specs.Ending.{ends_in, ends_in_slot}
use Rattle.frame.proofs.Bools.{and_both, eqb_same, if_either}
use Rattle.request.specs.Table.{row_of, has_answer}
use Rattle.request.specs.declared.table.Task.{Task}
use Rattle.request.specs.declared.table.Task.TheVariants as t
use Rattle.request.specs.declared.table.Success as row
use Rattle.request.specs.declared.table.Success.TheVariants as s
use Rattle.request.specs.declared.label.Params.{Params}
use Rattle.request.specs.declared.label.Target.{Target}
use Rattle.request.specs.declared.label.Target.TheVariants.{Everyone, Selected, One}
use Rattle.request.specs.declared.label.Family.{Family}
use Rattle.request.specs.declared.label.Call.TheVariants as k
use Rattle.request.specs.declared.label.Request.{Request}
use Rattle.request.specs.Label.{bare, decode, data_of}
use Rattle.label.specs.declared.step.Answer.{Answer}
use Rattle.label.specs.declared.step.Answer.TheVariants as a
use Rattle.label.specs.declared.step.Stepped.{Stepped}
use Rattle.label.specs.Step as steps
use Rattle.label_body.specs.Body as label
use Rattle.label_body.specs.Answer.{answer_frame}
use Rattle.label_body.specs.Facts.{LabelFine}
use Rattle.label_body.specs.Slots.{takes_part, clear, during}
use Rattle.label_body.proofs.FactsFine.{rules_fine}
use Rattle.label_body.proofs.AnswerFrames.{told_of}
use Rattle.label_body.proofs.BodyRoom.{sized_long}
use Rattle.label_body.proofs.Slots.{during_uid, first, next_none, step, last, said_none, said_step, said_last}
use Rattle.reader.specs.declared.command.Command.{Command}
use Rattle.reader.specs.declared.command.Command.TheVariants as c
use Rattle.reader.specs.Command.{valid}
use Rattle.reader.specs.Request.{encode, uid_meant, taken, label_meant, label_takes}
use Rattle.reader.proofs.CommandValid.{valid_inventory}
use Rattle.answer.specs.declared.reading.Reading.{Reading}
use Rattle.answer.specs.Answer.{error_code, owned, reading_of}
use Rattle.accord.specs.Tags.{label_meaning, bytes_told, bytes_meant, label_says, LabelGives, after, slot_says, SlotGives}
use Rattle.accord.proofs.RequestMeant.{label_is_meant, inventory_meant}
use Rattle.accord.proofs.AnswerRead.{none_read, error_read, done_read, block_read, blocks_read, locks_read, info_read, bytes_there, found_read}

-- ---- labels

-- what a label can answer to a task with such a success: to is the target, p the task's parameters
data Given (to : Target) (option : Bool) (p : Params) (uid b : List ℕ) : row.Success → Answer → Type 0 where
  silent : {success : row.Success} → Given to option p uid b success a.Silent
  error : {success : row.Success} (code : ℕ) → has_answer success ≡ true → error_code code ≡ true → Given to option p uid b success (a.Error code)
  done : Given to option p uid b s.Done a.Done
  block : p.first ≤ get_or b 11 0 → Given to option p uid b s.Block (a.Block p.first option)
  info : owned to uid (part 0 8 b) ≡ true → Given to option p uid b s.Info a.Info
  blocks : p.first + p.second ≤ get_or b 11 0 → Given to option p uid b s.Blocks (steps.several option p.first p.second)
  locks : p.first + p.second ≤ get_or b 11 0 → Given to option p uid b s.Locks (a.Locks p.first p.second)

module _ (to : Target) (option : Bool) (p : Params) (uid b : List ℕ) where
  abbrev Gives : Task → Stepped → Type 0
  Gives task x = Given to option p uid b (row_of task).success x.answer

  -- who acts on an addressed request is the owner
  owner : (x : Target) → steps.acts x (uid_meant x uid) (label.load_of b) ≡ true → owned x uid (part 0 8 b) ≡ true
  unfolding steps.acts label.load_of
  owner Everyone e = refl
  owner Selected e = refl
  owner One e = eqb_same (num (part 0 8 b)) (num uid) (num uid) (num (part 0 8 b)) sym sym ∙ e

  performs : (task : Task) (count lock : ℕ) → owned to uid (part 0 8 b) ≡ true
      → Gives task (steps.perform task (taken (row_of task) p) option count lock (steps.ended (label.load_of b)))
  unfolding row_of taken steps.perform steps.read_block steps.write_block steps.lock_block steps.read_blocks steps.read_locks steps.write_afi steps.lock_afi
      steps.write_dsfid steps.lock_dsfid steps.ended label.load_of error_code
  performs t.Quiet count lock o = silent
  performs t.Read count lock o =
      if_either (Gives t.Read) (ltb (get_or b 11 0) p.first) _ _ (λ q. error 0x10 refl refl)
      (λ q. block (ltb-false (get_or b 11 0) p.first q))
  performs t.Write count lock o =
      if_either (Gives t.Write) (not (eqb count (get_or b 12 0 + 1))) _ _ (λ q. error 0x02 refl refl)
      (λ q. if_either (Gives t.Write) option _ _ (λ q. error 0x03 refl refl)
      (λ q. if_either (Gives t.Write) (ltb (get_or b 11 0) p.first) _ _ (λ q. error 0x10 refl refl)
      (λ q. if_either (Gives t.Write) (eqb lock 1) _ _ (λ q. error 0x12 refl refl) (λ q. done))))
  performs t.Lock count lock o =
      if_either (Gives t.Lock) (ltb (get_or b 11 0) p.first) _ _ (λ q. error 0x10 refl refl)
      (λ q. if_either (Gives t.Lock) (eqb lock 1) _ _ (λ q. error 0x11 refl refl) (λ q. done))
  performs t.ReadMany count lock o =
      let n = p.first + p.second in
      if_either (Gives t.ReadMany) (ltb (get_or b 11 0) n) _ _ (λ q. error 0x10 refl refl) (λ q. blocks (ltb-false (get_or b 11 0) n q))
  performs t.Select count lock o = done
  performs t.Ready count lock o = done
  performs t.WriteAfi count lock o = if_either (Gives t.WriteAfi) (set? (bit 0 (get_or b 10 0))) _ _ (λ q. error 0x12 refl refl) (λ q. done)
  performs t.LockAfi count lock o = if_either (Gives t.LockAfi) (set? (bit 0 (get_or b 10 0))) _ _ (λ q. error 0x11 refl refl) (λ q. done)
  performs t.WriteDsfid count lock o = if_either (Gives t.WriteDsfid) (set? (bit 1 (get_or b 10 0))) _ _ (λ q. error 0x12 refl refl) (λ q. done)
  performs t.LockDsfid count lock o = if_either (Gives t.LockDsfid) (set? (bit 1 (get_or b 10 0))) _ _ (λ q. error 0x11 refl refl) (λ q. done)
  performs t.Info count lock o = info o
  performs t.Status count lock o =
      let n = p.first + p.second in
      if_either (Gives t.Status) (ltb (get_or b 11 0) n) _ _ (λ q. error 0x10 refl refl) (λ q. locks (ltb-false (get_or b 11 0) n q))

  asked : (task : Task) (count lock : ℕ)
      → Gives task (steps.awake (steps.asked to (uid_meant to uid) task (taken (row_of task) p) option count lock (label.load_of b)) (label.load_of b))
  unfolding steps.asked steps.passed
  asked task count lock =
      let l = label.load_of b in
      if_either (Gives task) (eqb l.state 0) _ _ (λ q. silent)
      (λ q. if_either (Gives task) (steps.acts to (uid_meant to uid) l) _ _ (λ w. performs task count lock (owner to w))
      (λ w. if_either (Gives task) (eqb (row_of task).code 0x25 && eqb (steps.ended l).state 3) _ _ (λ q. silent) (λ q. silent)))

-- the answers that a label gives to what was meant
said_given : (to : Target) (option : Bool) (task : Task) (p : Params) (uid : List ℕ) (count : ℕ) (b : List ℕ)
    → Given to option p uid b (row_of task).success (label.said_label (label_meant to option task p uid) count b)
unfolding label.said_label label.stepped steps.act steps.called label_meant
said_given to option task p uid count b = asked to option p uid b task count _

-- each of them is read to what it means
answer_read : (to : Target) (option : Bool) (task : Task) (p : Params) (uid : List ℕ) (n : ℕ) (b : List ℕ) → valid (c.Label to option task p) n ≡ true
    → LabelFine b → (success : row.Success) (x : Answer) → (row_of task).success ≡ success → Given to option p uid b success x
    → reading_of (c.Label to option task p) uid n (answer_frame x b) ≡ label_meaning x b
unfolding answer_frame label_meaning
answer_read to option task p uid n b v ok success x e silent = none_read (c.Label to option task p) uid n v
answer_read to option task p uid n b v ok success x e (error code h z) = error_read to option task p uid n v code b (ap has_answer e ∙ h) z
answer_read to option task p uid n b v ok success x e done = done_read to option task p uid n v b e
answer_read to option task p uid n b v ok success x e (block h) = block_read to option task p uid n v p.first b ok h e
answer_read to option task p uid n b v ok success x e (info o) = info_read to option task p uid n v b ok o e
answer_read to option task p uid n b v ok success x e (blocks h) = blocks_read to option task p uid n v p.first b ok h e
answer_read to option task p uid n b v ok success x e (locks h) = locks_read to option task p uid n v p.first b ok h e

-- ---- Inventory

uid_long : (b : List ℕ) → LabelFine b → length (part 0 8 b) ≡ 8
uid_long b ok = length-take-le 8 b (omega (arith, sized_long b ok.sized))

module _ (to : Target) (option : Bool) (family : Family) (sixteen : Bool) (bits mask : ℕ) (uid : List ℕ) (n : ℕ)
    (v : valid (c.Inventory to option family sixteen bits mask) n ≡ true) (b : List ℕ) where
  -- an answer of b that is read to what it means
  abbrev Found : Answer → Type 0
  Found x = reading_of (c.Inventory to option family sixteen bits mask) uid n (answer_frame x b) ≡ label_meaning x b

  none_found : Found a.Silent
  unfolding answer_frame label_meaning
  none_found = none_read (c.Inventory to option family sixteen bits mask) uid n v

  one_found : length (part 0 8 b) ≡ 8 → ends_in (part 0 8 b) mask bits ≡ true → Found a.Found
  unfolding label_meaning
  one_found l e = found_read to option family sixteen bits mask uid n b v l e

  call_found : (count : ℕ) → length (part 0 8 b) ≡ 8 → Found (label.said_label (bare (k.Inventory family sixteen bits mask)) count b)
  unfolding label.said_label label.stepped steps.act steps.called steps.inventory steps.heeds steps.opens steps.turn steps.ended label.load_of ends_in_slot
  call_found count h =
      let l = label.load_of b in
      let P : Stepped → Type 0 = λ x. Found x.answer in
      if_either P (eqb (get_or b 14 0) 0) _ _ (λ q. none_found)
      (λ q. if_either P (steps.ready l && steps.passes family (get_or b 9 0)) _ _ (λ q. opened sixteen) (λ q. none_found))
    where
      opened : (x : Bool) → Found (steps.opens x bits mask (steps.ended (label.load_of b))).answer
      opened true =
          if_either (λ (x : Stepped). Found x.answer) (ends_in (part 0 8 b) mask bits && eqb (num (part 0 8 b) / 2 ^ bits % 16) 0) _ _
          (λ q. one_found h (and_both (ends_in (part 0 8 b) mask bits) (eqb (num (part 0 8 b) / 2 ^ bits % 16) 0) q).0) (λ q. none_found)
      opened false = if_either (λ (x : Stepped). Found x.answer) (ends_in (part 0 8 b) mask bits) _ _ (λ q. one_found h q) (λ q. none_found)

-- ---- any command

-- to nothing that was asked a label says nothing
ignored_read : (command : Command) (uid : List ℕ) (n : ℕ) → valid command n ≡ true → (count : ℕ) (b : List ℕ)
    → reading_of command uid n (answer_frame (label.said_label (bare k.Ignored) count b) b) ≡ label_meaning (label.said_label (bare k.Ignored) count b) b
unfolding label.said_label label.stepped steps.act steps.called answer_frame label_meaning
ignored_read command uid n v count b = none_read command uid n v

takes_read : (command : Command) (uid : List ℕ) (n : ℕ) → valid command n ≡ true → (count : ℕ) (b : List ℕ) → LabelFine b
    → reading_of command uid n (answer_frame (label.said_label (label_takes command uid) count b) b)
    ≡ label_meaning (label.said_label (label_takes command uid) count b) b
unfolding label_takes valid
takes_read (c.Inventory to option family sixteen bits mask) uid n v count b ok = call_found to option family sixteen bits mask uid n v b count (uid_long b ok)
takes_read (c.Label to option task p) uid n v count b ok =
    answer_read to option task p uid n b v ok (row_of task).success
    (label.said_label (label_meant to option task p uid) count b) refl (said_given to option task p uid count b)
takes_read (c.Chip to option task) uid n v count b ok = ignored_read (c.Chip to option task) uid n v count b
takes_read (c.Other kind code) uid n v count b ok = absurd (false≢true v)

-- what a label with a well-formed body says to what a command asks of it is read to what it means, silence too ..
pub label_read : (command : Command) (uid : List ℕ) (n : ℕ) → valid command n ≡ true → (r : Request) → r ≡ label_takes command uid
    → (count : ℕ) (b : List ℕ) → LabelFine b
    → reading_of command uid n (answer_frame (label.said_label r count b) b) ≡ label_meaning (label.said_label r count b) b
label_read command uid n v r e count b ok = rw e (takes_read command uid n v count b ok)

-- .. and where the reading tells the place of bytes, there stand the blocks' and their locks'
pub label_bytes : (command : Command) (uid : List ℕ) (n : ℕ) → valid command n ≡ true → (r : Request) → r ≡ label_takes command uid
    → (count : ℕ) (b : List ℕ) → LabelFine b
    → bytes_told (reading_of command uid n (answer_frame (label.said_label r count b) b)).meaning (answer_frame (label.said_label r count b) b)
    ≡ bytes_meant (label.said_label r count b) b
label_bytes command uid n v r e count b ok =
    let x = label.said_label r count b in
    ap (λ (y : Reading). bytes_told y.meaning (answer_frame x b)) (label_read command uid n v r e count b ok) ∙ bytes_there x b ok (told_of r count b)

-- a body that keeps to the rules
fine_body : (b : List ℕ) → Bytes b → label.label_rules b ≡ fine → LabelFine b
fine_body b bs e = rules_fine b bs e

-- what a well-formed label answers to a label command is read to what it means ..
pub label_gives : (to : Target) (option : Bool) (task : Task) (p : Params) (uid d g : List ℕ) → valid (c.Label to option task p) (length d) ≡ true
    → length uid ≡ 8 → (y : LabelGives (encode (c.Label to option task p) uid d) g)
    → reading_of (c.Label to option task p) uid (length d) g ≡ label_meaning (label_says (encode (c.Label to option task p) uid d) y.body) y.body
unfolding label_takes
label_gives to option task p uid d g v h y =
    let f = encode (c.Label to option task p) uid d in
    let b = y.body in
    ap (reading_of (c.Label to option task p) uid (length d)) (sym y.says)
    ∙ label_read (c.Label to option task p) uid (length d) v (decode f) (label_is_meant to option task p uid d v h) (length (data_of f)) b
    (fine_body b y.bytes y.well_formed)

-- .. and the bytes of the blocks that it gives stand where the reading says
pub label_gives_bytes : (to : Target) (option : Bool) (task : Task) (p : Params) (uid d g : List ℕ) → valid (c.Label to option task p) (length d) ≡ true
    → length uid ≡ 8 → (y : LabelGives (encode (c.Label to option task p) uid d) g)
    → bytes_told (reading_of (c.Label to option task p) uid (length d) g).meaning g
    ≡ bytes_meant (label_says (encode (c.Label to option task p) uid d) y.body) y.body
unfolding label_takes
label_gives_bytes to option task p uid d g v h y =
    let f = encode (c.Label to option task p) uid d in
    let b = y.body in
    ap (λ (x : List ℕ). bytes_told (reading_of (c.Label to option task p) uid (length d) x).meaning x) (sym y.says)
    ∙ label_bytes (c.Label to option task p) uid (length d) v (decode f) (label_is_meant to option task p uid d v h) (length (data_of f)) b
    (fine_body b y.bytes y.well_formed)

-- what a well-formed label answers to an Inventory is read to what it means
pub inventory_gives : (to : Target) (option : Bool) (family : Family) (sixteen : Bool) (bits mask : ℕ) (uid d g : List ℕ)
    → valid (c.Inventory to option family sixteen bits mask) (length d) ≡ true
    → (y : LabelGives (encode (c.Inventory to option family sixteen bits mask) uid d) g)
    → reading_of (c.Inventory to option family sixteen bits mask) uid (length d) g
    ≡ label_meaning (label_says (encode (c.Inventory to option family sixteen bits mask) uid d) y.body) y.body
unfolding label_takes
inventory_gives to option family sixteen bits mask uid d g v y =
    let command = c.Inventory to option family sixteen bits mask in
    let f = encode command uid d in
    let b = y.body in
    ap (reading_of command uid (length d)) (sym y.says)
    ∙ label_read command uid (length d) v (decode f) (inventory_meant to option family sixteen bits mask uid d v) (length (data_of f)) b
    (fine_body b y.bytes y.well_formed)

-- ---- later slots

abbrev next : List ℕ → List ℕ
next x = label.next_label (bare k.EndOfFrame) [] x

module _ (f : List ℕ) (family : Family) (bits mask : ℕ) (b : List ℕ) (bs : Bytes b) (ok : LabelFine b) (hb : bits ≤ 60) (hm : mask < 2 ^ bits)
    (q : decode f ≡ bare (k.Inventory family true bits mask)) where
  -- the body after an Inventory and n ends of frame is in slot n
  pub after_slot : (n : ℕ) → n ≤ 15 → after f b n ≡ during family bits mask n b
  unfolding after
  after_slot zero h = ap (λ (r : Request). label.next_label r (data_of f) b) q ∙ first family bits mask (data_of f) b bs ok
  after_slot (suc n) h = ap next (after_slot n (omega arith)) ∙ step family bits mask b ok hb hm n [] (omega arith)

  -- with more of them the sequence has ended
  after_ended : (n : ℕ) → after f b (n + 16) ≡ clear b
  unfolding after
  after_ended zero = ap next (after_slot 15 (omega arith)) ∙ last family bits mask b ok hb hm []
  after_ended (suc n) =
      let e : suc n + 16 ≡ suc (n + 16) = omega arith in
      rw e (ap next (after_ended n) ∙ next_none family bits mask b ok hb hm [])

-- what is said there: in a slot below 15 Found, where the UID ends in the mask with the next slot above it; else nothing
module _ (to : Target) (option : Bool) (family : Family) (bits mask : ℕ) (uid : List ℕ) (n : ℕ)
    (v : valid (c.Inventory to option family true bits mask) n ≡ true) (b : List ℕ) (ok : LabelFine b) where
  abbrev Later : List ℕ → Type 0
  Later x = Found to option family true bits mask uid n v x (slot_says x)

  nothing_said : (x : List ℕ) → slot_says x ≡ a.Silent → Later x
  nothing_said x e = subst (Found to option family true bits mask uid n v x) (sym e) (none_found to option family true bits mask uid n v x)

  facts : (bits ≤ 60) × (mask < 2 ^ bits)
  facts = let i = valid_inventory to option family true bits mask n v in (i.short, i.low)

  pub slot_said : (s : ℕ) → s < 15
      → reading_of (c.Inventory to option family true bits mask) uid n (answer_frame (slot_says (during family bits mask s b)) (during family bits mask s b))
      ≡ label_meaning (slot_says (during family bits mask s b)) (during family bits mask s b)
  unfolding ends_in_slot
  slot_said s h =
      subst P (sym (said_step family bits mask b ok facts.0 facts.1 s 0 h))
      (if_either P (takes_part family b && ends_in_slot (part 0 8 b) mask bits (suc s)) _ _ found (λ q. none_found to option family true bits mask uid n v x))
    where
      x : List ℕ
      x = during family bits mask s b

      P : Answer → Type 0
      P = Found to option family true bits mask uid n v x

      found : (takes_part family b && ends_in_slot (part 0 8 b) mask bits (suc s)) ≡ true → P a.Found
      found q =
          let u = during_uid family bits mask s b in
          let w = (and_both (takes_part family b) (ends_in_slot (part 0 8 b) mask bits (suc s)) q).1 in
          let i = (and_both (ends_in (part 0 8 b) mask bits) (eqb (num (part 0 8 b) / 2 ^ bits % 16) (suc s)) w).0 in
          one_found to option family true bits mask uid n v x (ap length u ∙ uid_long b ok) (ap (λ (l : List ℕ). ends_in l mask bits) u ∙ i)

  last_said : Later (during family bits mask 15 b)
  last_said = nothing_said (during family bits mask 15 b) (said_last family bits mask b ok facts.0 facts.1 0)

  clear_said : Later (clear b)
  clear_said = nothing_said (clear b) (said_none family bits mask b ok facts.0 facts.1 0)

  -- what a label with a well-formed body says to each end of frame behind a sixteen-slot Inventory's frame is read to what it means, silence too
  pub slot_read : (f : List ℕ) → Bytes b → decode f ≡ bare (k.Inventory family true bits mask) → (m : ℕ)
      → reading_of (c.Inventory to option family true bits mask) uid n (answer_frame (slot_says (after f b m)) (after f b m))
      ≡ label_meaning (slot_says (after f b m)) (after f b m)
  slot_read f bs q m = go (ltb m 15) (eqb m 15) refl refl
    where
      go : (x y : Bool) → ltb m 15 ≡ x → eqb m 15 ≡ y → Later (after f b m)
      go true y i j =
          let h = ltb-true m 15 i in
          subst Later (sym (after_slot f family bits mask b bs ok facts.0 facts.1 q m (omega arith))) (slot_said m h)
      go false true i j =
          let e = eqb-true m 15 j in
          rw e (subst Later (sym (after_slot f family bits mask b bs ok facts.0 facts.1 q 15 (omega arith))) last_said)
      go false false i j =
          let e : m ≡ m - 16 + 16 = let h = ltb-false m 15 i in let z = eqb-false m 15 j in omega arith in
          rw e (subst Later (sym (after_ended f family bits mask b bs ok facts.0 facts.1 q (m - 16))) clear_said)

-- what a well-formed label answers in a later slot of a sixteen-slot Inventory is read to what it means
pub slot_gives : (to : Target) (option : Bool) (family : Family) (bits mask : ℕ) (uid d g : List ℕ)
    → valid (c.Inventory to option family true bits mask) (length d) ≡ true
    → (y : SlotGives (encode (c.Inventory to option family true bits mask) uid d) g)
    → reading_of (c.Inventory to option family true bits mask) uid (length d) g
    ≡ label_meaning (slot_says (after (encode (c.Inventory to option family true bits mask) uid d) y.body y.n))
    (after (encode (c.Inventory to option family true bits mask) uid d) y.body y.n)
slot_gives to option family bits mask uid d g v y =
    let command = c.Inventory to option family true bits mask in
    ap (reading_of command uid (length d)) (sym y.says)
    ∙ slot_read to option family bits mask uid (length d) v y.body (fine_body y.body y.bytes y.well_formed) (encode command uid d) y.bytes
    (inventory_meant to option family true bits mask uid d v) y.n
