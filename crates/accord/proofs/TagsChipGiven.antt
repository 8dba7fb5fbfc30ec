-- Each success that is read to a chip command is one that some well-formed chip gives: a chip of 80 bytes spelt out, every block the same,
-- computes to the answer whose content was read.
-- Assumes nothing.
use Rattle.std.specs.Prelude.{if◌then◌else◌}
use mathlib.Core.Path.{◌≡◌, refl, sym, ap, subst, ◌∙◌}
use mathlib.Core.Bool.{Bool, true, false, not, ◌||◌}
use mathlib.Core.List.{List, [], ◌∷◌, ◌++◌}
use Prim.Native.Nat.{ℕ, ◌+◌, ◌-◌, ◌*◌, ◌/◌, ◌%◌, ◌<◌}
use native.Mathlib.Omega.{arith}
use lib.Dec.{lit<, eqb, ltb}
use lib.ListN.{length, get_or, replicate}
use borrow.Author.Tests.{eqb-true, eq-eqb, ltb-true}
use Rattle.frame.specs.Choose.{gather}
use Rattle.frame.specs.Number.{part, Bytes}
use Rattle.frame.specs.CheckSum.{content, framed}
use Rattle.frame.specs.Judge.{fine}
use Rattle.frame.proofs.Bools.{if_true, if_false}
use Rattle.frame.proofs.Lists.{window, window_all}
use Rattle.frame.proofs.Stores.{bytes_cons}
use Rattle.frame.proofs.Numbers.{bytes_append, bytes_take}
use Rattle.frame.proofs.Gather.{gather_bytes}
use Rattle.request.specs.declared.label.Target.{Target}
use Rattle.request.specs.declared.chip.Order.{Order}
use Rattle.chip.specs.declared.step.Answer.{Answer}
use Rattle.chip.specs.declared.step.Answer.TheVariants as a
use Rattle.chip.specs.declared.step.Stepped.{Stepped}
use Rattle.request.specs.Chip.{listed, decode}
use Rattle.chip.specs.Step as step
use Rattle.chip_body.specs.Body as chip
use Rattle.chip_body.specs.Answer.{speaks, answer_frame}
use Rattle.reader.specs.declared.command.ChipTask.{ChipTask}
use Rattle.reader.specs.declared.command.ChipTask.TheVariants as p
use Rattle.reader.specs.declared.command.Command.TheVariants as c
use Rattle.reader.specs.Command.{valid}
use Rattle.reader.specs.Request.{encode, chip_meant}
use Rattle.reader.proofs.CommandValid.{valid_chip, read_listed}
use Rattle.answer.specs.Answer.{chip_reading, shape_of, reading_of}
use Rattle.accord.specs.Tags.{ChipGives}
use Rattle.accord.proofs.RequestMeant.{chip_is_meant}
use Rattle.accord.proofs.AnswerRight.{NoRefusal, fits_true, fits_both, told_right}
use Rattle.accord.proofs.TagsMade.{bytes_none, bytes_same, gathered_part}

-- every block s; UID, state and Chip_ID
unfoldable chip_made : List ℕ → List ℕ → ℕ → ℕ → List ℕ
chip_made s u state id = gather 17 (λ i. window 4 0 s) ++ (window 8 0 u ++ (state ∷ id ∷ 0 ∷ 0 ∷ []))

zeros : List ℕ
zeros = replicate 8 0

chip_bytes : (s u : List ℕ) (state id : ℕ) → Bytes (window 4 0 s) → Bytes (window 8 0 u) → state < 256 → id < 256 → Bytes (chip_made s u state id)
unfolding chip_made
chip_bytes s u state id bs bu h i =
    bytes_append (gather 17 (λ i. window 4 0 s)) (window 8 0 u ++ (state ∷ id ∷ 0 ∷ 0 ∷ [])) (gather_bytes 17 (λ i. window 4 0 s) (λ i l. bs))
    (bytes_append (window 8 0 u) (state ∷ id ∷ 0 ∷ 0 ∷ []) bu
    (bytes_cons state (id ∷ 0 ∷ 0 ∷ []) h (bytes_cons id (0 ∷ 0 ∷ []) i (bytes_cons 0 (0 ∷ []) (lit< tt) (bytes_cons 0 [] (lit< tt) bytes_none)))))

chip_long : (s u : List ℕ) (state id : ℕ) → length (chip_made s u state id) ≡ 80
unfolding chip_made gather
chip_long s u state id = refl

-- in states 2 and 3 it is well-formed
inventory_rules : (s u : List ℕ) (id : ℕ) → chip.chip_rules (chip_made s u 2 id) ≡ fine
unfolding chip_made gather chip.chip_rules
inventory_rules s u id = refl

selected_rules : (s u : List ℕ) (id : ℕ) → chip.chip_rules (chip_made s u 3 id) ≡ fine
unfolding chip_made gather chip.chip_rules
selected_rules s u id = refl

chip_block : (s u : List ℕ) (state id n : ℕ) → listed n ≡ true → part (chip.place_of n) 4 (chip_made s u state id) ≡ window 4 0 s
unfolding chip_made listed chip.place_of
chip_block s u state id n h = go (ltb n 16) (eqb n 255) h (ltb-true n 16) (eqb-true n 255)
  where
    go : (x y : Bool) → (x || y) ≡ true → (x ≡ true → n < 16) → (y ≡ true → n ≡ 255)
        → part (if x then 4 * n else 64) 4 (gather 17 (λ i. window 4 0 s) ++ (window 8 0 u ++ (state ∷ id ∷ 0 ∷ 0 ∷ []))) ≡ window 4 0 s
    go true y e f g =
        let l : n < 16 = f refl in
        gathered_part [] 4 17 n (λ i. window 4 0 s) (window 8 0 u ++ (state ∷ id ∷ 0 ∷ 0 ∷ [])) (4 * n) (λ i l. refl) (omega arith) (omega arith)
    go false y e f g = gathered_part [] 4 17 16 (λ i. window 4 0 s) (window 8 0 u ++ (state ∷ id ∷ 0 ∷ 0 ∷ [])) 64 (λ i l. refl) (lit< tt) refl

chip_uid : (s u : List ℕ) (state id : ℕ) → part 68 8 (chip_made s u state id) ≡ window 8 0 u
unfolding chip_made gather
chip_uid s u state id = refl

-- ---- what it says

module _ (s u : List ℕ) (id : ℕ) where
  initiate_said : (draw : ℕ) (d : List ℕ) → chip.said_chip (chip_meant p.Initiate d) draw (chip_made s u 2 id) ≡ a.Id draw
  unfolding chip_made gather chip_meant chip.said_chip chip.stepped step.act step.initiate step.chosen chip.load_of
  initiate_said draw d = refl

  pcall_said : (d : List ℕ) → id % 16 ≡ 0 → chip.said_chip (chip_meant p.Pcall d) 0 (chip_made s u 2 id) ≡ a.Id id
  unfolding chip_made gather chip_meant chip.said_chip chip.stepped step.act step.pcall step.chosen chip.load_of
  pcall_said d h = ap a.Id (let e : id / 16 * 16 + 0 ≡ id = omega arith in e)

  marker_said : (n draw : ℕ) (d : List ℕ) → id % 16 ≡ n → chip.said_chip (chip_meant (p.Marker n) d) draw (chip_made s u 2 id) ≡ a.Id id
  unfolding chip_made gather chip_meant chip.said_chip chip.stepped step.act step.marker chip.load_of
  marker_said n draw d h = ap (λ (x : Stepped). x.answer) (if_true (eqb (id % 16) n) _ _ (eq-eqb (id % 16) n h))

  select_said : (draw : ℕ) (d : List ℕ) → chip.said_chip (chip_meant (p.Select id) d) draw (chip_made s u 3 id) ≡ a.Id id
  unfolding chip_made gather chip_meant chip.said_chip chip.stepped step.act step.select chip.load_of
  select_said draw d = ap (λ (x : Stepped). x.answer) (if_false (not (eqb id id)) _ _ (ap not (eq-eqb id id refl)))

  read_said : (n draw : ℕ) (d : List ℕ) → chip.said_chip (chip_meant (p.Read n) d) draw (chip_made s u 3 id) ≡ a.Block n
  unfolding chip_made gather chip_meant chip.said_chip chip.stepped step.act step.read chip.load_of
  read_said n draw d = refl

  uid_said : (draw : ℕ) (d : List ℕ) → chip.said_chip (chip_meant p.Uid d) draw (chip_made s u 3 id) ≡ a.Uid
  unfolding chip_made gather chip_meant chip.said_chip chip.stepped step.act step.uid chip.load_of
  uid_said draw d = refl

-- ---- frames

id_frame : (id : ℕ) (b : List ℕ) → answer_frame (a.Id id) b ≡ framed (id ∷ [])
unfolding answer_frame
id_frame id b = refl

block_frame : (n : ℕ) (b s : List ℕ) → part (chip.place_of n) 4 b ≡ s → answer_frame (a.Block n) b ≡ framed s
unfolding answer_frame
block_frame n b s e = ap framed e

uid_frame : (b u : List ℕ) → part 68 8 b ≡ u → answer_frame a.Uid b ≡ framed u
unfolding answer_frame
uid_frame b u e = ap framed e

bytes_4 : Bytes (window 4 0 zeros)
unfolding zeros
bytes_4 = bytes_same 4 0 (lit< tt)

bytes_8 : Bytes (window 8 0 zeros)
unfolding zeros
bytes_8 = bytes_same 8 0 (lit< tt)

one_byte : (s : List ℕ) → length s ≡ 1 → get_or s 0 0 ∷ [] ≡ s
one_byte s h = window_all 1 s h

-- ---- a chip that gives it
module _ (to : Target) (option : Bool) (uid d : List ℕ) where
  abbrev Gives : ChipTask → List ℕ → Type 0
  Gives task g = ChipGives (encode (c.Chip to option task) uid d) g

  abbrev Valid : ChipTask → Type 0
  Valid task = valid (c.Chip to option task) (length d) ≡ true

  give : (task : ChipTask) (b g : List ℕ) (draw : ℕ) (x : Answer) → Valid task → Bytes b → length b ≡ 80 → chip.chip_rules b ≡ fine → draw < 256
      → chip.said_chip (chip_meant task d) draw b ≡ x → speaks x ≡ true → answer_frame x b ≡ g → Gives task g
  give task b g draw x v bs l ok h e s i =
      let z : chip.said_chip (decode (encode (c.Chip to option task) uid d)) draw b ≡ x =
      ap (λ (o : Order). chip.said_chip o draw b) (chip_is_meant to option task uid d v) ∙ e
      in
      record {
        body = b;
        bytes = bs;
        long = l;
        well_formed = ok;
        draw = draw;
        small = h;
        speaks = ap speaks z ∙ s;
        says = ap (λ (y : Answer). answer_frame y b) z ∙ i;
      }

  -- one in state 2 with a Chip_ID
  inventory_given : (task : ChipTask) (s : List ℕ) (id draw : ℕ) → Valid task → id < 256 → draw < 256 → length s ≡ 1
      → chip.said_chip (chip_meant task d) draw (chip_made zeros zeros 2 id) ≡ a.Id (get_or s 0 0) → Gives task (framed s)
  inventory_given task s id draw v h l n e =
      let b = chip_made zeros zeros 2 id in
      give task b (framed s) draw (a.Id (get_or s 0 0)) v (chip_bytes zeros zeros 2 id bytes_4 bytes_8 (lit< tt) h) (chip_long zeros zeros 2 id)
      (inventory_rules zeros zeros id) l e refl (id_frame (get_or s 0 0) b ∙ ap framed (one_byte s n))

  -- one that is selected
  selected_given : (task : ChipTask) (x u s : List ℕ) (id : ℕ) (y : Answer) → Valid task → Bytes (window 4 0 x) → Bytes (window 8 0 u) → id < 256
      → chip.said_chip (chip_meant task d) 0 (chip_made x u 3 id) ≡ y → speaks y ≡ true → answer_frame y (chip_made x u 3 id) ≡ framed s → Gives task (framed s)
  selected_given task x u s id y v bx bu h e w i =
      give task (chip_made x u 3 id) (framed s) 0 y v (chip_bytes x u 3 id bx bu (lit< tt) h) (chip_long x u 3 id) (selected_rules x u id) (lit< tt) e w i

  task_given : (task : ChipTask) (s : List ℕ) → Valid task → Bytes s → NoRefusal (chip_reading task s) → Gives task (framed s)
  unfolding chip_reading
  task_given p.Initiate s v bs h =
      let n = eqb-true (length s) 1 (fits_true (eqb (length s) 1) _ h) in
      inventory_given p.Initiate s 0 (get_or s 0 0) v (lit< tt) (bs 0) n (initiate_said zeros zeros 0 (get_or s 0 0) d)
  task_given p.Pcall s v bs h =
      let e = fits_both (eqb (length s) 1) (eqb (get_or s 0 0 % 16) 0) _ h in
      inventory_given p.Pcall s (get_or s 0 0) 0 v (bs 0) (lit< tt) (eqb-true (length s) 1 e.0)
      (pcall_said zeros zeros (get_or s 0 0) d (eqb-true (get_or s 0 0 % 16) 0 e.1))
  task_given (p.Marker n) s v bs h =
      let e = fits_both (eqb (length s) 1) (eqb (get_or s 0 0 % 16) n) _ h in
      inventory_given (p.Marker n) s (get_or s 0 0) 0 v (bs 0) (lit< tt) (eqb-true (length s) 1 e.0)
      (marker_said zeros zeros (get_or s 0 0) n 0 d (eqb-true (get_or s 0 0 % 16) n e.1))
  task_given (p.Select id) s v bs h =
      let e = fits_both (eqb (length s) 1) (eqb (get_or s 0 0) id) _ h in
      let i : get_or s 0 0 ≡ id = eqb-true (get_or s 0 0) id e.1 in
      selected_given (p.Select id) zeros zeros s id (a.Id id) v bytes_4 bytes_8 (subst (λ (x : ℕ). x < 256) i (bs 0)) (select_said zeros zeros id 0 d) refl
      (id_frame id (chip_made zeros zeros 3 id) ∙ ap framed (ap (λ (x : ℕ). x ∷ []) (sym i) ∙ one_byte s (eqb-true (length s) 1 e.0)))
  task_given p.Completion s v bs h = absurd (omega arith)
  task_given p.Reset s v bs h = absurd (omega arith)
  task_given (p.Read n) s v bs h =
      let w = window_all 4 s (eqb-true (length s) 4 (fits_true (eqb (length s) 4) _ h)) in
      let ok = read_listed n (length d) (valid_chip to option (p.Read n) (length d) v) in
      selected_given (p.Read n) s zeros s 0 (a.Block n) v (subst Bytes (sym w) bs) bytes_8 (lit< tt) (read_said s zeros 0 n 0 d) refl
      (block_frame n (chip_made s zeros 3 0) s (chip_block s zeros 3 0 n ok ∙ w))
  task_given p.Uid s v bs h =
      let w = window_all 8 s (eqb-true (length s) 8 (fits_true (eqb (length s) 8) _ h)) in
      selected_given p.Uid zeros s s 0 a.Uid v bytes_4 (subst Bytes (sym w) bs) (lit< tt) (uid_said zeros s 0 0 d) refl
      (uid_frame (chip_made zeros s 3 0) s (chip_uid zeros s 3 0 ∙ w))
  task_given (p.Write n) s v bs h = absurd (omega arith)

-- a success read to a chip command is one that some well-formed chip gives
pub chip_given : (to : Target) (option : Bool) (task : ChipTask) (uid d f : List ℕ) → Bytes f → NoRefusal (reading_of (c.Chip to option task) uid (length d) f)
    → ChipGives (encode (c.Chip to option task) uid d) f
unfolding shape_of
chip_given to option task uid d f bs h =
    let y = told_right (c.Chip to option task) uid (length d) f bs h in
    subst (ChipGives (encode (c.Chip to option task) uid d)) (sym y.frame)
    (task_given to option uid d task (content f) y.fields (bytes_take (length f - 2) f bs) (subst NoRefusal y.shape h))
