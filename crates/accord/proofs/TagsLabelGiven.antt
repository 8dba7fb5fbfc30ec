-- Each success that is read is one that some well-formed label gives: a frame that passes its tests has a content of known shape, and a label
-- made to that content gives it. An error frame fits whether or not a label gives it to that command, so errors are left out.
-- Assumes nothing.
use Rattle.std.specs.Prelude.{if◌then◌else◌}
use mathlib.Core.Path.{◌≡◌, refl, sym, ap, ap₂, subst, ◌∙◌}
use mathlib.Core.Logic.{◌⊎◌, inl, inr}
use mathlib.Core.Bool.{Bool, true, false, not, ◌&&◌, ◌||◌, false≢true}
use mathlib.Core.List.{List, [], ◌∷◌, ◌++◌}
use Prim.Native.Nat.{ℕ, zero, suc, ◌+◌, ◌-◌, ◌/◌, ◌%◌, ◌^◌, ◌≤◌, ◌<◌}
use native.Mathlib.Nat.{add-zero, mod-lt}
use native.Mathlib.Omega.{arith}
use lib.Dec.{lit<, eqb, leb}
use lib.ListN.{length, get_or, drop, replicate, length-drop, length-replicate}
use lib.Seq.{length-take-le}
use borrow.Author.Tests.{eqb-true, eq-eqb, le-ltb, leb-true}
use Rattle.frame.specs.Choose.{gather}
use Rattle.frame.specs.Number.{num, part, Bytes}
use Rattle.frame.specs.CheckSum.{content, framed}
use Rattle.frame.specs.Ending.{ends_in, ends_in_slot}
use Rattle.frame.proofs.Bools.{and_both, or_right, eqb_same, if_true, if_false}
use Rattle.frame.proofs.Lists.{window, window_take, window_all}
use Rattle.frame.proofs.Numbers.{bytes_take, bytes_part}
use Rattle.frame.proofs.Gather.{gather_ext}
use Rattle.request.specs.Table.{row_of, has_answer}
use Rattle.request.specs.declared.table.Task.{Task}
use Rattle.request.specs.declared.table.Task.TheVariants as t
use Rattle.request.specs.declared.label.Params.{Params}
use Rattle.request.specs.declared.label.Target.{Target}
use Rattle.request.specs.declared.label.Target.TheVariants.{Everyone, Selected, One}
use Rattle.request.specs.declared.label.Family.{Family}
use Rattle.request.specs.declared.label.Family.TheVariants.{Any, Only}
use Rattle.request.specs.declared.label.Call.TheVariants as k
use Rattle.request.specs.declared.label.Request.{Request}
use Rattle.request.specs.Label.{bare, decode, data_of}
use Rattle.label.specs.declared.step.Answer.{Answer}
use Rattle.label.specs.declared.step.Answer.TheVariants as a
use Rattle.label.specs.declared.step.Stepped.{Stepped}
use Rattle.label.specs.Step as steps
use Rattle.label_body.specs.Body as label
use Rattle.label_body.specs.Locks.{lock_on}
use Rattle.label_body.specs.Answer.{speaks, block_bytes, blocks_bytes, locks_bytes, answer_frame}
use Rattle.label_body.specs.Facts.{LabelFine}
use Rattle.label_body.specs.Slots.{takes_part, during}
use Rattle.label_body.proofs.FactsFine.{fine_rules}
use Rattle.label_body.proofs.BodyRoom.{sized_long}
use Rattle.label_body.proofs.Slots.{during_taking, during_uid, said_first, said_step, seek_get_d, found_frame}
use Rattle.reader.specs.declared.command.Command.TheVariants as c
use Rattle.reader.specs.Command.{valid}
use Rattle.reader.specs.Request.{encode, uid_meant, taken, label_meant}
use Rattle.reader.specs.Plan.{RangedFamily}
use Rattle.reader.proofs.CommandValid.{valid_inventory, valid_label, block_long}
use Rattle.answer.specs.declared.reading.Meaning.TheVariants as m
use Rattle.answer.specs.declared.reading.Reading.{Reading}
use Rattle.answer.specs.Answer.{said, is_error, done_of, owned, info_of, success_of, label_reading, found_of, shape_of, reading_of}
use Rattle.accord.specs.Tags.{LabelGives, SlotGives, after}
use Rattle.accord.proofs.RequestMeant.{label_is_meant, data_meant, inventory_meant}
use Rattle.accord.proofs.AnswerRead.{held}
use Rattle.accord.proofs.AnswerRight.{NoRefusal, fits_both, told_right}
use Rattle.accord.proofs.TagsLabelRead.{after_slot}
use Rattle.accord.proofs.TagsMade.{bytes_same, made, Body, made_body}
use Rattle.accord.proofs.TagsShapes.{tell_block, tell_lock, Shape, block_shape, blocks_shape, locks_shape}

-- a label's answer that is no error is a success
plain_success : (to : Target) (option : Bool) (task : Task) (p : Params) (uid s : List ℕ) → NoRefusal (label_reading to option task p uid s)
    → ((code : ℕ) → (label_reading to option task p uid s).meaning ≡ m.Error code → ⊥) → NoRefusal (success_of to option (row_of task).success p.second uid s)
unfolding label_reading
plain_success to option task p uid s h ne = go (has_answer (row_of task).success && is_error s) h ne
  where
    r : Reading
    r = success_of to option (row_of task).success p.second uid s

    go : (b : Bool) → NoRefusal (if b then said (m.Error (get_or s 1 0)) else r)
        → ((code : ℕ) → (if b then said (m.Error (get_or s 1 0)) else r).meaning ≡ m.Error code → ⊥) → NoRefusal r
    go true z ne = absurd (ne (get_or s 1 0) refl)
    go false z ne = z

-- ---- a label that gives it

give : (f b g : List ℕ) (r : Request) (x : Answer) → Bytes b → LabelFine b → decode f ≡ r → label.said_label r (length (data_of f)) b ≡ x
    → speaks x ≡ true → answer_frame x b ≡ g → LabelGives f g
give f b g r x bs ok m e s i =
    let z : label.said_label (decode f) (length (data_of f)) b ≡ x = ap (λ (y : Request). label.said_label y (length (data_of f)) b) m ∙ e in
    record {
      body = b;
      bytes = bs;
      well_formed = fine_rules b bs ok;
      speaks = ap speaks z ∙ s;
      says = ap (λ (y : Answer). answer_frame y b) z ∙ i;
    }

-- x is the body after f and n ends of frame
give_later : (f b g x : List ℕ) (n : ℕ) → Bytes b → LabelFine b → after f b n ≡ x → label.said_label (bare k.EndOfFrame) 0 x ≡ a.Found
    → answer_frame a.Found x ≡ g → SlotGives f g
give_later f b g x n bs ok m e i =
    let z : label.said_label (bare k.EndOfFrame) 0 (after f b n) ≡ a.Found = ap (label.said_label (bare k.EndOfFrame) 0) m ∙ e in
    record {
      body = b;
      bytes = bs;
      well_formed = fine_rules b bs ok;
      n = n;
      speaks = ap speaks z;
      says = ap₂ answer_frame z m ∙ i;
    }

-- it acts
acts_made : (to : Target) (uid u b : List ℕ) → get_or b 14 0 ≡ 3 → part 0 8 b ≡ u → owned to uid u ≡ true
    → steps.acts to (uid_meant to uid) (label.load_of b) ≡ true
unfolding steps.acts steps.ready label.load_of
acts_made Everyone uid u b s e o = rw s
acts_made Selected uid u b s e o = rw s
acts_made One uid u b s e o = rw e (eqb_same (num uid) (num u) (num u) (num uid) sym sym ∙ o)

own_uid : (to : Target) (uid : List ℕ) → owned to uid uid ≡ true
own_uid Everyone uid = refl
own_uid Selected uid = refl
own_uid One uid = eq-eqb (num uid) (num uid) refl

-- 00 alone
zero_alone : (s : List ℕ) → NoRefusal (done_of s) → s ≡ 0 ∷ []
unfolding done_of
zero_alone s h =
    let e = fits_both (eqb (length s) 1) (eqb (get_or s 0 0) 0) (said m.Done) h in
    sym (window_all 1 s (eqb-true (length s) 1 e.0)) ∙ ap (λ (x : ℕ). x ∷ []) (eqb-true (get_or s 0 0) 0 e.1)

done_frame : (b : List ℕ) → answer_frame a.Done b ≡ framed (0 ∷ [])
unfolding answer_frame
done_frame b = refl

-- blocks and locks, each as it is told
block_frame : (n : ℕ) (option : Bool) (b : List ℕ)
    → answer_frame (a.Block n option) b ≡ framed (0 ∷ gather 1 (λ i. tell_block option (lock_on (n + i) b) (held (n + i) b)))
unfolding answer_frame block_bytes gather
block_frame n option b = rw (add-zero n) refl

blocks_frame : (n more : ℕ) (option : Bool) (b : List ℕ)
    → answer_frame (steps.several option n more) b ≡ framed (0 ∷ gather (more + 1) (λ i. tell_block option (lock_on (n + i) b) (held (n + i) b)))
unfolding answer_frame blocks_bytes block_bytes
blocks_frame n more true b = refl
blocks_frame n more false b = refl

several_speaks : (option : Bool) (n more : ℕ) → speaks (steps.several option n more) ≡ true
several_speaks true n more = refl
several_speaks false n more = refl

locks_frame : (n more : ℕ) (b : List ℕ)
    → answer_frame (a.Locks n more) b ≡ framed (0 ∷ gather (more + 1) (λ i. tell_lock (lock_on (n + i) b) (held (n + i) b)))
unfolding answer_frame locks_bytes
locks_frame n more b = refl

-- what a label says of itself
info_frame : (b s : List ℕ) → 14 ≤ length b → length s ≡ 15 → get_or s 0 0 ≡ 0 → get_or s 1 0 ≡ 0x0F → part 0 8 b ≡ part 2 8 s → get_or b 8 0 ≡ get_or s 10 0
    → get_or b 9 0 ≡ get_or s 11 0 → get_or b 11 0 ≡ get_or s 12 0 → get_or b 12 0 ≡ get_or s 13 0 → get_or b 13 0 ≡ get_or s 14 0 → answer_frame a.Info b ≡ framed s
unfolding answer_frame
info_frame b s hb hs z f u e8 e9 e11 e12 e13 =
    let w : window 8 0 b ≡ window 8 2 s = window_take 8 0 b (omega arith) ∙ u ∙ sym (window_take 8 2 s (omega arith)) in
    let i : 0 ∷ 0x0F ∷ (part 0 10 b ++ part 11 3 b) ≡ 0 ∷ 0x0F ∷ (window 10 0 b ++ window 3 11 b) =
    ap₂ (λ (x y : List ℕ). 0 ∷ 0x0F ∷ (x ++ y)) (sym (window_take 10 0 b (omega arith))) (sym (window_take 3 11 b (omega arith)))
    in
    let r : List ℕ = get_or b 8 0 ∷ get_or b 9 0 ∷ get_or b 11 0 ∷ get_or b 12 0 ∷ get_or b 13 0 ∷ [] in
    let j : 0 ∷ 0x0F ∷ (window 8 0 b ++ r) ≡ window 15 0 s = ap (λ (l : List ℕ). 0 ∷ 0x0F ∷ (l ++ r)) w ∙ rw (e8, e9, e11, e12, e13, z, f) in
    ap framed (i ∙ j ∙ window_all 15 s hs)

-- Option on a row that does not allow it
no_option : (option : Bool) → (not option || false) ≡ true → option ≡ false
no_option true e = absurd (false≢true e)
no_option false e = refl

module _ (to : Target) (option : Bool) (p : Params) (uid d : List ℕ) (hu : length uid ≡ 8) (bu : Bytes uid) (hp : p.first < 256) where
  abbrev sent : Task → List ℕ
  sent task = encode (c.Label to option task p) uid d

  -- what b says to a task, where it acts
  abbrev Says : Task → List ℕ → Answer → Type 0
  Says task b x =
      let q = taken (row_of task) p in
      (steps.perform task q option (length (data_of (sent task))) (lock_on q.first b) (steps.ended (label.load_of b))).answer ≡ x

  module _ (task : Task) (v : valid (c.Label to option task p) (length d) ≡ true) where
    said_acts : (b : List ℕ) → get_or b 14 0 ≡ 3 → steps.acts to (uid_meant to uid) (label.load_of b) ≡ true → {x : Answer} → Says task b x
        → label.said_label (label_meant to option task p uid) (length (data_of (sent task))) b ≡ x
    unfolding label.said_label label.stepped steps.act steps.called steps.asked label_meant label.named label.load_of
    said_acts b s e z =
        ap (λ (x : Stepped). x.answer)
        (if_false (eqb (get_or b 14 0) 0) _ _ (ap (λ (x : ℕ). eqb x 0) s) ∙ if_true (steps.acts to (uid_meant to uid) (label.load_of b)) _ _ e)
        ∙ z

    -- a command's answer, from what one that acts says
    asked : {b u : List ℕ} {dsfid afi last ic size : ℕ} {lock : ℕ → ℕ} {block : ℕ → List ℕ} (g : List ℕ) (x : Answer)
        → Body b u dsfid afi last ic size lock block → owned to uid u ≡ true
        → Says task b x → speaks x ≡ true → answer_frame x b ≡ g → LabelGives (sent task) g
    asked {b} {u} g x y o z w i =
        give (sent task) b g _ x y.bytes y.ok (label_is_meant to option task p uid d v hu)
        (said_acts b y.state (acts_made to uid u b y.state y.uid o) z) w i

    -- k bytes in a block: those sent, or one
    done_given : (s : List ℕ) (k : ℕ) → NoRefusal (done_of s) → 1 ≤ k → k ≤ 32
        → ((b : List ℕ) → Body b uid 0 0 255 0 k (λ i. 0) (λ i. replicate k 0) → Says task b a.Done) → LabelGives (sent task) (framed s)
    done_given s k z lo hi f =
        let y =
        made_body uid 0 0 255 0 k (λ i. 0) (λ i. replicate k 0) hu bu (lit< tt) (lit< tt) (lit< tt) (lit< tt) lo hi (λ i l. omega arith)
        (λ i l. bytes_same k 0 (lit< tt)) (λ i l. length-replicate k 0)
        in
        let b = made uid 0 0 255 0 k (λ i. 0) (λ i. replicate k 0) in
        asked (framed s) a.Done y (own_uid to uid) (f b y) refl (done_frame b ∙ ap framed (sym (zero_alone s z)))

    -- from block n on, blocks and locks are what was read; those before are as block n
    held_given : {tell : ℕ → List ℕ → List ℕ} (s : List ℕ) (n more : ℕ) (x : Answer) → n + more ≤ 255 → Shape tell (more + 1) s
        → ((b : List ℕ) → get_or b 11 0 ≡ n + more → Says task b x) → speaks x ≡ true
        → ((b : List ℕ) → answer_frame x b ≡ framed (0 ∷ gather (more + 1) (λ i. tell (lock_on (n + i) b) (held (n + i) b)))) → LabelGives (sent task) (framed s)
    held_given {tell} s n more x h w f q r =
        let lock : ℕ → ℕ = λ i. w.lock (i - n) in
        let block : ℕ → List ℕ = λ i. w.block (i - n) in
        let y =
        made_body uid 0 0 (n + more) 0 w.size lock block hu bu (lit< tt) (lit< tt) (omega arith) (lit< tt) w.least w.most
        (λ i l. w.low (i - n) (omega arith)) (λ i l. w.bytes (i - n) (omega arith)) (λ i l. w.long (i - n) (omega arith))
        in
        let b = made uid 0 0 (n + more) 0 w.size lock block in
        let same : (i : ℕ) → i < more + 1 → tell (lock_on (n + i) b) (held (n + i) b) ≡ tell (w.lock i) (w.block i) =
        λ i l.
        let e : n + i - n ≡ i = omega arith in
        ap₂ tell (y.locked (n + i) (omega arith) ∙ ap (λ (j : ℕ). w.lock j) e) (y.held (n + i) (omega arith) ∙ ap (λ (j : ℕ). w.block j) e)
        in
        asked (framed s) x y (own_uid to uid) (f b y.blocks) q
        (r b ∙ ap (λ (l : List ℕ). framed (0 ∷ l)) (gather_ext (more + 1) _ _ same) ∙ ap framed w.is)

    -- a label with the numbers that were read
    info_given : (s : List ℕ) → Bytes s → NoRefusal (info_of to uid s) → ((b : List ℕ) → Says task b a.Info) → LabelGives (sent task) (framed s)
    unfolding info_of
    info_given s bs z f =
        let own = owned to uid (part 2 8 s) in
        let e1 = fits_both (eqb (length s) 15) (eqb (get_or s 0 0) 0 && (eqb (get_or s 1 0) 0x0F && (leb (get_or s 13 0) 31 && own))) _ z in
        let e2 = and_both (eqb (get_or s 0 0) 0) (eqb (get_or s 1 0) 0x0F && (leb (get_or s 13 0) 31 && own)) e1.1 in
        let e3 = and_both (eqb (get_or s 1 0) 0x0F) (leb (get_or s 13 0) 31 && own) e2.1 in
        let e4 = and_both (leb (get_or s 13 0) 31) own e3.1 in
        let hs : length s ≡ 15 = eqb-true (length s) 15 e1.0 in
        let small = leb-true (get_or s 13 0) 31 e4.0 in
        let u = part 2 8 s in
        let lu : length u ≡ 8 = length-take-le 8 (drop 2 s) (rw (length-drop 2 s) (omega arith)) in
        let size = suc (get_or s 13 0) in
        let block : ℕ → List ℕ = λ i. replicate size 0 in
        let y =
        made_body u (get_or s 10 0) (get_or s 11 0) (get_or s 12 0) (get_or s 14 0) size (λ i. 0) block lu (bytes_part 2 8 s bs) (bs 10) (bs 11) (bs 12) (bs 14)
        (omega arith) (omega arith) (λ i l. omega arith) (λ i l. bytes_same size 0 (lit< tt)) (λ i l. length-replicate size 0)
        in
        let b = made u (get_or s 10 0) (get_or s 11 0) (get_or s 12 0) (get_or s 14 0) size (λ i. 0) block in
        asked (framed s) a.Info y e4.1 (f b) refl
        (info_frame b s (omega (arith, sized_long b y.ok.sized)) hs (eqb-true (get_or s 0 0) 0 e2.0) (eqb-true (get_or s 1 0) 0x0F e3.0) y.uid
        y.dsfids y.afis y.blocks (omega (arith, y.sizes)) y.ics)

  -- the last of the blocks that two parameters name has a number
  range_small : (task : Task) → valid (c.Label to option task p) (length d) ≡ true → (row_of task).len ≡ 6 → p.first + p.second ≤ 255
  range_small task v e = leb-true (p.first + p.second) 255 (rw e at (valid_label to option task p (length d) v).range)

  -- ---- a success read to a label command is one that some well-formed label gives

  task_given : (task : Task) (s : List ℕ) → valid (c.Label to option task p) (length d) ≡ true → Bytes s
      → NoRefusal (success_of to option (row_of task).success p.second uid s) → LabelGives (sent task) (framed s)
  unfolding row_of taken success_of steps.perform steps.read_block steps.write_block steps.lock_block steps.read_blocks steps.read_locks steps.write_afi steps.lock_afi
      steps.write_dsfid steps.lock_dsfid steps.ended label.load_of
  task_given t.Quiet s v bs z = absurd (omega arith)
  task_given t.Read s v bs z =
      let n = p.first in
      held_given t.Read v s n 0 (a.Block n option) (omega arith) (block_shape option s bs z) (λ b e. rw (le-ltb (get_or b 11 0) n (omega arith))) refl
      (block_frame n option)
  task_given t.Write s v bs z =
      let n = p.first in
      let w = valid_label to option t.Write p (length d) v in
      let l = block_long (row_of t.Write) (length d) refl w.count in
      done_given t.Write v s (length d) z l.0 l.1
      (λ b y.
      rw (
        eq-eqb (length (data_of (sent t.Write))) (get_or b 12 0 + 1) (ap length (data_meant to option t.Write p uid d hu refl) ∙ sym y.sizes),
        no_option option w.allowed,
        le-ltb (get_or b 11 0) n (omega (arith, y.blocks)),
        y.locked n (omega arith),
      ))
  task_given t.Lock s v bs z =
      let n = p.first in
      done_given t.Lock v s 1 z (omega arith) (omega arith) (λ b y. rw (le-ltb (get_or b 11 0) n (omega (arith, y.blocks)), y.locked n (omega arith)))
  task_given t.ReadMany s v bs z =
      let n = p.first in
      let more = p.second in
      held_given t.ReadMany v s n more (steps.several option n more) (range_small t.ReadMany v refl) (blocks_shape option (more + 1) s bs z)
      (λ b e. rw (le-ltb (get_or b 11 0) (n + more) (omega arith))) (several_speaks option n more) (blocks_frame n more option)
  task_given t.Select s v bs z = done_given t.Select v s 1 z (omega arith) (omega arith) (λ b y. refl)
  task_given t.Ready s v bs z = done_given t.Ready v s 1 z (omega arith) (omega arith) (λ b y. refl)
  task_given t.WriteAfi s v bs z = done_given t.WriteAfi v s 1 z (omega arith) (omega arith) (λ b y. rw y.locks)
  task_given t.LockAfi s v bs z = done_given t.LockAfi v s 1 z (omega arith) (omega arith) (λ b y. rw y.locks)
  task_given t.WriteDsfid s v bs z = done_given t.WriteDsfid v s 1 z (omega arith) (omega arith) (λ b y. rw y.locks)
  task_given t.LockDsfid s v bs z = done_given t.LockDsfid v s 1 z (omega arith) (omega arith) (λ b y. rw y.locks)
  task_given t.Info s v bs z = info_given t.Info v s bs z (λ b. refl)
  task_given t.Status s v bs z =
      let n = p.first in
      let more = p.second in
      held_given t.Status v s n more (a.Locks n more) (range_small t.Status v refl) (locks_shape (more + 1) s z)
      (λ b e. rw (le-ltb (get_or b 11 0) (n + more) (omega arith))) refl (locks_frame n more)

pub label_given : (to : Target) (option : Bool) (task : Task) (p : Params) (uid d f : List ℕ) → length uid ≡ 8 → Bytes uid → p.first < 256 → Bytes f
    → NoRefusal (reading_of (c.Label to option task p) uid (length d) f)
    → ((code : ℕ) → (reading_of (c.Label to option task p) uid (length d) f).meaning ≡ m.Error code → ⊥)
    → LabelGives (encode (c.Label to option task p) uid d) f
unfolding shape_of
label_given to option task p uid d f hu bu hp bs h ne =
    let y = told_right (c.Label to option task p) uid (length d) f bs h in
    let s = content f in
    let w = plain_success to option task p uid s (subst NoRefusal y.shape h) (λ code q. ne code (ap (λ (x : Reading). x.meaning) y.shape ∙ q)) in
    subst (LabelGives (encode (c.Label to option task p) uid d)) (sym y.frame)
    (task_given to option p uid d hu bu hp task s y.fields (bytes_take (length f - 2) f bs) w)

-- ---- Inventory

abbrev family_afi : Family → ℕ
family_afi Any = 0
family_afi (Only afi) = afi

family_passes : (family : Family) → steps.passes family (family_afi family) ≡ true
unfolding steps.passes
family_passes Any = refl
family_passes (Only afi) = or_right (eqb afi 0) (half || eqb afi afi) (or_right half (eqb afi afi) (eq-eqb afi afi refl))
  where
    half : Bool
    half = eqb (afi % 16) 0 && eqb (afi / 16) (afi / 16)

afi_small : (family : Family) → RangedFamily family → family_afi family < 256
unfolding RangedFamily
afi_small Any r = lit< tt
afi_small (Only afi) r = r

-- a frame that is found, and a label that has what it says
record Seen (family : Family) (mask bits : ℕ) (s b : List ℕ) : Type 0 where
  bytes : Bytes b
  ok : LabelFine b
  state : get_or b 14 0 ≡ 3
  takes : takes_part family b ≡ true
  ends : ends_in (part 0 8 b) mask bits ≡ true
  frame : framed (0 ∷ get_or b 8 0 ∷ part 0 8 b) ≡ framed s

abbrev seer : Family → List ℕ → List ℕ
seer family s = made (part 2 8 s) (get_or s 1 0) (family_afi family) 0 0 1 (λ i. 0) (λ i. 0 ∷ [])

seen : (family : Family) (mask bits : ℕ) (s : List ℕ) → RangedFamily family → Bytes s → NoRefusal (found_of bits mask s) → Seen family mask bits s
    (seer family s)
unfolding found_of takes_part steps.heeds steps.ready label.load_of
seen family mask bits s r bs h =
    let u = part 2 8 s in
    let e1 = fits_both (eqb (length s) 10) (eqb (get_or s 0 0) 0 && ends_in u mask bits) _ h in
    let e2 = and_both (eqb (get_or s 0 0) 0) (ends_in u mask bits) e1.1 in
    let hs : length s ≡ 10 = eqb-true (length s) 10 e1.0 in
    let lu : length u ≡ 8 = length-take-le 8 (drop 2 s) (rw (length-drop 2 s) (omega arith)) in
    let y =
    made_body u (get_or s 1 0) (family_afi family) 0 0 1 (λ i. 0) (λ i. 0 ∷ []) lu (bytes_part 2 8 s bs) (bs 1) (afi_small family r) (lit< tt) (lit< tt)
    (omega arith) (omega arith) (λ i l. omega arith) (λ i l. bytes_same 1 0 (lit< tt)) (λ i l. refl)
    in
    let w : 0 ∷ get_or s 1 0 ∷ u ≡ s =
    ap₂ (λ (x : ℕ) (l : List ℕ). x ∷ get_or s 1 0 ∷ l) (sym (eqb-true (get_or s 0 0) 0 e2.0)) (sym (window_take 8 2 s (omega arith))) ∙ window_all 10 s hs
    in
    record {
      bytes = y.bytes;
      ok = y.ok;
      state = y.state;
      takes = rw (y.state, y.afis) (family_passes family);
      ends = ap (λ (l : List ℕ). ends_in l mask bits) y.uid ∙ e2.1;
      frame = ap framed (ap₂ (λ (x : ℕ) (l : List ℕ). 0 ∷ x ∷ l) y.dsfids y.uid ∙ w);
    }

-- of one slot
said_one : (family : Family) (bits mask n : ℕ) (b : List ℕ) → get_or b 14 0 ≡ 3 → takes_part family b ≡ true → ends_in (part 0 8 b) mask bits ≡ true
    → label.said_label (bare (k.Inventory family false bits mask)) n b ≡ a.Found
unfolding label.said_label label.stepped steps.act steps.called steps.inventory steps.opens steps.ended label.load_of takes_part
said_one family bits mask n b s o q =
    ap (λ (i : Stepped). i.answer)
    (if_false (eqb (get_or b 14 0) 0) _ _ (ap (λ (i : ℕ). eqb i 0) s)
    ∙ if_true (steps.heeds family (label.load_of b)) _ _ o
    ∙ if_true (ends_in (part 0 8 b) mask bits) _ _ q)

-- a success read to an Inventory of one slot is one that some well-formed label gives
pub one_slot_given : (to : Target) (option : Bool) (family : Family) (bits mask : ℕ) (uid d f : List ℕ) → RangedFamily family → Bytes f
    → NoRefusal (reading_of (c.Inventory to option family false bits mask) uid (length d) f)
    → LabelGives (encode (c.Inventory to option family false bits mask) uid d) f
unfolding shape_of
one_slot_given to option family bits mask uid d f r bs h =
    let command = c.Inventory to option family false bits mask in
    let y = told_right command uid (length d) f bs h in
    let s = content f in
    let w = seen family mask bits s r (bytes_take (length f - 2) f bs) (subst NoRefusal y.shape h) in
    let b = seer family s in
    let g = encode command uid d in
    give g b f _ a.Found w.bytes w.ok (inventory_meant to option family false bits mask uid d y.fields)
    (said_one family bits mask (length (data_of g)) b w.state w.takes w.ends) refl (found_frame b ∙ w.frame ∙ sym y.frame)

-- in slot q of sixteen
slot_ends : (u : List ℕ) (mask bits q : ℕ) → ends_in u mask bits ≡ true → num u / 2 ^ bits % 16 ≡ q → ends_in_slot u mask bits q ≡ true
unfolding ends_in_slot
slot_ends u mask bits q e i = ap₂ ◌&&◌ e (eq-eqb (num u / 2 ^ bits % 16) q i)

slot_frame : (family : Family) (bits mask q : ℕ) (b : List ℕ) → takes_part family b ≡ true
    → answer_frame a.Found (during family bits mask q b) ≡ framed (0 ∷ get_or b 8 0 ∷ part 0 8 b)
slot_frame family bits mask q b o =
    let x = during family bits mask q b in
    found_frame x
    ∙ ap₂ (λ (n : ℕ) (l : List ℕ). framed (0 ∷ n ∷ l))
    (ap (λ (l : List ℕ). get_or l 8 0) (during_taking family bits mask q b o) ∙ seek_get_d q bits mask b 8 (lit< tt))
    (during_uid family bits mask q b)

module _ (to : Target) (option : Bool) (family : Family) (bits mask : ℕ) (uid d : List ℕ)
    (v : valid (c.Inventory to option family true bits mask) (length d) ≡ true) (s b : List ℕ) (w : Seen family mask bits s b) where
  abbrev g : List ℕ
  g = encode (c.Inventory to option family true bits mask) uid d

  abbrev slot : ℕ
  slot = num (part 0 8 b) / 2 ^ bits % 16

  both_true : (q : ℕ) → slot ≡ q → (takes_part family b && ends_in_slot (part 0 8 b) mask bits q) ≡ true
  both_true q e = ap₂ ◌&&◌ w.takes (slot_ends (part 0 8 b) mask bits q w.ends e)

  first_given : slot ≡ 0 → LabelGives g (framed s)
  first_given e =
      give g b (framed s) _ a.Found w.bytes w.ok (inventory_meant to option family true bits mask uid d v)
      (said_first family bits mask (length (data_of g)) b
      ∙ if_true (takes_part family b && ends_in_slot (part 0 8 b) mask bits 0) a.Found a.Silent (both_true 0 e))
      refl (found_frame b ∙ w.frame)

  later_given : (q : ℕ) → q < 15 → slot ≡ suc q → SlotGives g (framed s)
  later_given q h e =
      let i = valid_inventory to option family true bits mask (length d) v in
      give_later g b (framed s) (during family bits mask q b) q w.bytes w.ok
      (after_slot g family bits mask b w.bytes w.ok i.short i.low (inventory_meant to option family true bits mask uid d v) q (omega arith))
      (said_step family bits mask b w.ok i.short i.low q 0 h
      ∙ if_true (takes_part family b && ends_in_slot (part 0 8 b) mask bits (suc q)) a.Found a.Silent (both_true (suc q) e))
      (slot_frame family bits mask q b w.takes ∙ w.frame)

  slot_given : (q : ℕ) → slot ≡ q → LabelGives g (framed s) ⊎ SlotGives g (framed s)
  slot_given zero e = inl (first_given e)
  slot_given (suc q) e =
      let l : slot < 16 = mod-lt (num (part 0 8 b) / 2 ^ bits) (lit< tt) in
      inr (later_given q (omega arith) e)

-- a success read to an Inventory of sixteen slots is one that some well-formed label gives, to the frame or in a later slot
pub sixteen_given : (to : Target) (option : Bool) (family : Family) (bits mask : ℕ) (uid d f : List ℕ) → RangedFamily family → Bytes f
    → NoRefusal (reading_of (c.Inventory to option family true bits mask) uid (length d) f)
    → LabelGives (encode (c.Inventory to option family true bits mask) uid d) f ⊎ SlotGives (encode (c.Inventory to option family true bits mask) uid d) f
unfolding shape_of
sixteen_given to option family bits mask uid d f r bs h =
    let command = c.Inventory to option family true bits mask in
    let y = told_right command uid (length d) f bs h in
    let s = content f in
    let b = seer family s in
    let w = seen family mask bits s r (bytes_take (length f - 2) f bs) (subst NoRefusal y.shape h) in
    let g = encode command uid d in
    subst (λ (l : List ℕ). LabelGives g l ⊎ SlotGives g l) (sym y.frame)
    (slot_given to option family bits mask uid d y.fields s b w (num (part 0 8 b) / 2 ^ bits % 16) refl)
