-- A label through the slots of a sixteen-slot Inventory: the step on its body is `seek`, ten bytes anew, so slot s is `during .. s`.
-- Well-formedness is needed where a label in state 0 is left alone: it has no slot already. Assumes nothing.
use Rattle.std.specs.Prelude.{if◌then◌else◌}
use mathlib.Core.Path.{◌≡◌, refl, sym, ap, ap₂, ◌∙◌}
use mathlib.Core.Logic.{inl, ⊎_elim}
use mathlib.Core.Bool.{Bool, true, false, ◌&&◌, ◌||◌, false≢true}
use mathlib.Core.List.{List, ◌∷◌}
use Prim.Native.Nat.{ℕ, suc, ◌+◌, ◌^◌, ◌≤◌, ◌<◌}
use native.Mathlib.Numerals.{add-one}
use native.Mathlib.Omega.{arith}
use lib.Dec.{eqb}
use lib.ListN.{length, get_or}
use lib.Seq.{length-sets}
use borrow.Author.Tests.{eqb-true, eqb-false, ne_eqb, lt-ltb, le-ltb}
use Rattle.frame.specs.Number.{num, bytes_of, part, Bytes}
use Rattle.frame.specs.CheckSum.{framed}
use Rattle.frame.specs.Ending.{ends_in_slot}
use Rattle.frame.proofs.Bools.{and_both, same_or_not, if_both, if_same}
use Rattle.frame.proofs.Numbers.{bytes_small}
use Rattle.frame.proofs.Stores.{sets_off, part_off, sets_over, bytes_cons, bytes_sets}
use Rattle.request.specs.declared.label.Family.{Family}
use Rattle.request.specs.declared.label.Call.TheVariants.{EndOfFrame, Inventory}
use Rattle.request.specs.declared.label.Request.{Request}
use Rattle.label.specs.declared.step.Label.{Label}
use Rattle.label.specs.declared.step.Answer.TheVariants as a
use Rattle.label.specs.declared.step.Stepped.{Stepped}
use Rattle.request.specs.Label.{bare}
use Rattle.label.specs.Step.{with_slot, ended, told, silent, passes, ready, heeds, turn, opens, inventory, end_of_frame, awake, called, act}
use Rattle.label_body.specs.Body.{load_of, store_of, worked, stepped, next_label, said_label}
use Rattle.label_body.specs.Answer.{answer_frame}
use Rattle.label_body.specs.Facts.{LabelFine}
use Rattle.label_body.specs.Slots.{takes_part, seek, clear, during}
use Rattle.label_body.proofs.BodyRoom.{sized_long}
use Rattle.label_body.proofs.BodyStored.{load_store, store_load, store_seek, seek_own}
use Rattle.label_body.proofs.BodyKeeps.{proper_idle, proper_slot, load_proper, mask_fits, stored_fine}

-- ---- reading a body whose slot, mask length and mask were written

module _ (s m e : ℕ) (b : List ℕ) where
  pub seek_length : length (seek s m e b) ≡ length b
  unfolding seek
  seek_length = length-sets b 15 (s ∷ m ∷ bytes_of 8 e)

  pub seek_get_d : (j : ℕ) → j < 15 → get_or (seek s m e b) j 0 ≡ get_or b j 0
  unfolding seek
  seek_get_d j h = sets_off b (s ∷ m ∷ bytes_of 8 e) 15 j (inl h)

  pub seek_uid : part 0 8 (seek s m e b) ≡ part 0 8 b
  unfolding seek
  seek_uid = part_off b (s ∷ m ∷ bytes_of 8 e) 15 0 8 (inl (omega arith))

  pub seek_seek : (s' m' e' : ℕ) → seek s' m' e' (seek s m e b) ≡ seek s' m' e' b
  unfolding seek
  seek_seek s' m' e' = sets_over b (s ∷ m ∷ bytes_of 8 e) (s' ∷ m' ∷ bytes_of 8 e') 15 (omega arith)

  pub seek_bytes : s < 256 → m < 256 → Bytes b → Bytes (seek s m e b)
  unfolding seek
  seek_bytes hs hm f = bytes_sets b (s ∷ m ∷ bytes_of 8 e) 15 f (bytes_cons s (m ∷ bytes_of 8 e) hs (bytes_cons m (bytes_of 8 e) hm (bytes_small 8 e)))

  -- the label that it holds
  pub seek_load : 25 ≤ length b → e < 256 ^ 8 → load_of (seek s m e b) ≡ with_slot s m e (load_of b)
  seek_load h he = ap load_of (sym (store_seek b s m e)) ∙ load_store b (with_slot s m e (load_of b)) h he

pub clear_clear : (b : List ℕ) → clear (clear b) ≡ clear b
unfolding clear
clear_clear b = seek_seek 255 0 0 b 255 0 0

pub clear_length : (b : List ℕ) → length (clear b) ≡ length b
unfolding clear
clear_length b = seek_length 255 0 0 b

pub clear_uid : (b : List ℕ) → part 0 8 (clear b) ≡ part 0 8 b
unfolding clear
clear_uid b = seek_uid 255 0 0 b

clear_is : (b : List ℕ) → clear b ≡ seek 255 0 0 b
unfolding clear
clear_is b = refl

pub store_ended : (b : List ℕ) → store_of b (ended (load_of b)) ≡ clear b
unfolding clear ended
store_ended b = store_seek b 255 0 0

takes_seek : (family : Family) (s m e : ℕ) (b : List ℕ) → takes_part family (seek s m e b) ≡ takes_part family b
unfolding takes_part heeds ready load_of
takes_seek family s m e b =
    ap₂ (λ (x y : ℕ). (eqb x 1 || eqb x 3) && passes family y) (seek_get_d s m e b 14 (omega arith)) (seek_get_d s m e b 9 (omega arith))

pub takes_clear : (family : Family) (b : List ℕ) → takes_part family (clear b) ≡ takes_part family b
unfolding clear
takes_clear family b = takes_seek family 255 0 0 b

-- ---- a step by its outcome

module _ (r : Request) (bytes b : List ℕ) (l : Label) where
  pub next_turn : stepped r (length bytes) b ≡ turn l → next_label r bytes b ≡ store_of b l
  unfolding next_label turn worked
  next_turn e =
      ap (λ (s : Stepped). worked s.work bytes (store_of b s.next)) e
      ∙ if_both (λ (s : Stepped). worked s.work bytes (store_of b s.next) ≡ store_of b l) (ends_in_slot l.uid l.mask l.bits l.slot) refl refl

  pub next_silent : stepped r (length bytes) b ≡ silent l → next_label r bytes b ≡ store_of b l
  unfolding next_label worked
  next_silent e = ap (λ (s : Stepped). worked s.work bytes (store_of b s.next)) e

module _ (r : Request) (n : ℕ) (b : List ℕ) (l : Label) where
  pub said_turn : stepped r n b ≡ turn l → said_label r n b ≡ (if ends_in_slot l.uid l.mask l.bits l.slot then a.Found else a.Silent)
  unfolding said_label turn
  said_turn e = ap (λ (s : Stepped). s.answer) e ∙ go (ends_in_slot l.uid l.mask l.bits l.slot)
    where
      go : (t : Bool) → (if t then told a.Found l else silent l).answer ≡ (if t then a.Found else a.Silent)
      go true = refl
      go false = refl

  pub said_silent : stepped r n b ≡ silent l → said_label r n b ≡ a.Silent
  unfolding said_label
  said_silent e = ap (λ (s : Stepped). s.answer) e

-- ---- what the two calls do to a label

-- one that takes part is awake
takes_awake : (family : Family) (b : List ℕ) → takes_part family b ≡ true → eqb (get_or b 14 0) 0 ≡ false
unfolding takes_part heeds ready load_of
takes_awake family b h =
    ne_eqb (get_or b 14 0) 0 (λ z. false≢true (sym (rw z) ∙ (and_both (eqb (get_or b 14 0) 1 || eqb (get_or b 14 0) 3) (passes family (get_or b 9 0)) h).0))

takes_ready : (family : Family) (b : List ℕ) → takes_part family b ≡ true → ready (load_of b) ≡ true
unfolding takes_part ready load_of heeds
takes_ready family b h = (and_both (eqb (get_or b 14 0) 1 || eqb (get_or b 14 0) 3) (passes family (get_or b 9 0)) h).0

module _ (family : Family) (m e n : ℕ) (b : List ℕ) where
  inventory_taking : takes_part family b ≡ true → stepped (bare (Inventory family true m e)) n b ≡ turn (with_slot 0 m e (load_of b))
  unfolding takes_part stepped act called inventory ready ended load_of heeds opens
  inventory_taking h = rw (takes_awake family b h, h)

  inventory_not : takes_part family b ≡ false → (get_or b 14 0 ≡ 0 → ⊥) → stepped (bare (Inventory family true m e)) n b ≡ silent (ended (load_of b))
  unfolding takes_part stepped act called inventory ready ended load_of heeds opens
  inventory_not h z = rw (ne_eqb (get_or b 14 0) 0 z, h)

  inventory_asleep : get_or b 14 0 ≡ 0 → stepped (bare (Inventory family true m e)) n b ≡ silent (load_of b)
  unfolding stepped act called inventory load_of heeds opens
  inventory_asleep z = rw z

-- an end of frame, by the slot
pub end_more : (l : Label) → eqb l.state 0 ≡ false → l.slot < 15 → awake (end_of_frame l) l ≡ turn (with_slot (l.slot + 1) l.bits l.mask l)
unfolding end_of_frame
end_more l h g = rw (h, lt-ltb l.slot 15 g)

end_last : (l : Label) → eqb l.state 0 ≡ false → l.slot ≡ 15 → awake (end_of_frame l) l ≡ silent (ended l)
unfolding end_of_frame
end_last l h g = rw (h, g)

pub end_none : (l : Label) → l.slot ≡ 255 → awake (end_of_frame l) l ≡ silent l
unfolding end_of_frame
end_none l g = rw (le-ltb l.slot 15 (omega arith), ne_eqb l.slot 15 (λ z. omega arith)) (if_same (eqb l.state 0) (silent l))

module _ (s m e : ℕ) (b : List ℕ) (long : 25 ≤ length b) (he : e < 256 ^ 8) (n : ℕ) where
  -- a label in slot s, at an end of frame
  end_stepped : stepped (bare EndOfFrame) n (seek s m e b) ≡ awake (end_of_frame (with_slot s m e (load_of b))) (with_slot s m e (load_of b))
  unfolding stepped act called
  end_stepped = ap (λ (l : Label). awake (end_of_frame l) l) (seek_load s m e b long he)

  -- what is stored over it
  store_again : (t m' e' : ℕ) → store_of (seek s m e b) (with_slot t m' e' (load_of b)) ≡ seek t m' e' b
  store_again t m' e' =
      ap (λ (l : Label). store_of (seek s m e b) (with_slot t m' e' l)) (sym (seek_load s m e b long he))
      ∙ store_seek (seek s m e b) t m' e'
      ∙ seek_seek s m e b t m' e'

  stepped_more : eqb (get_or b 14 0) 0 ≡ false → s < 15 → stepped (bare EndOfFrame) n (seek s m e b) ≡ turn (with_slot (s + 1) m e (load_of b))
  unfolding load_of
  stepped_more h g = end_stepped ∙ end_more (with_slot s m e (load_of b)) h g

  stepped_last : eqb (get_or b 14 0) 0 ≡ false → s ≡ 15 → stepped (bare EndOfFrame) n (seek s m e b) ≡ silent (with_slot 255 0 0 (load_of b))
  unfolding load_of ended
  stepped_last h g = end_stepped ∙ end_last (with_slot s m e (load_of b)) h g

  stepped_none : s ≡ 255 → stepped (bare EndOfFrame) n (seek s m e b) ≡ silent (with_slot s m e (load_of b))
  stepped_none g = end_stepped ∙ end_none (with_slot s m e (load_of b)) g

-- ---- in slot s

module _ (family : Family) (m e s : ℕ) (b : List ℕ) where
  pub during_taking : takes_part family b ≡ true → during family m e s b ≡ seek s m e b
  unfolding during
  during_taking h = rw h

  during_not : takes_part family b ≡ false → during family m e s b ≡ clear b
  unfolding during
  during_not h = rw h

  -- a law of a body in a slot is one of either
  during_both : (P : List ℕ → Type 0) → P (seek s m e b) → P (clear b) → P (during family m e s b)
  unfolding during
  during_both P x y = if_both P (takes_part family b) x y

  pub during_uid : part 0 8 (during family m e s b) ≡ part 0 8 b
  during_uid = during_both (λ x. part 0 8 x ≡ part 0 8 b) (seek_uid s m e b) (clear_uid b)

  pub during_length : length (during family m e s b) ≡ length b
  during_length = during_both (λ x. length x ≡ length b) (seek_length s m e b) (clear_length b)

-- a slot needs state 1 or 3
pub no_slot : (b : List ℕ) → LabelFine b → (get_or b 14 0 ≡ 1 → ⊥) → (get_or b 14 0 ≡ 3 → ⊥) → get_or b 15 0 ≡ 255
no_slot b ok p q =
    ⊎_elim (λ (e : get_or b 15 0 ≡ 255). e) (λ (e : get_or b 15 0 ≡ 255 → ⊥). absurd (q (ok.ready e p))) (same_or_not (get_or b 15 0) 255)

-- a label in state 0 is clear
pub clear_own : (b : List ℕ) → Bytes b → LabelFine b → get_or b 14 0 ≡ 0 → clear b ≡ b
unfolding clear
clear_own b f ok z =
    let h : get_or b 15 0 ≡ 255 = no_slot b ok (λ e. omega arith) (λ e. omega arith) in
    let i : get_or b 16 0 ≡ 0 = ok.idle h in
    let q : num (part 17 8 b) < 2 ^ 0 = rw i at ok.mask in
    let o : num (part 17 8 b) ≡ 0 = omega arith in
    ap (λ (x : ℕ). seek x 0 0 b) (sym h)
    ∙ ap (λ (x : ℕ). seek (get_or b 15 0) x 0 b) (sym i)
    ∙ ap (λ (x : ℕ). seek (get_or b 15 0) (get_or b 16 0) x b) (sym o)
    ∙ seek_own b f (omega (arith, sized_long b ok.sized))

module _ (family : Family) (m e : ℕ) (bytes b : List ℕ) (f : Bytes b) (ok : LabelFine b) where
  pub first : next_label (bare (Inventory family true m e)) bytes b ≡ during family m e 0 b
  first = go (takes_part family b) refl
    where
      not-taking : takes_part family b ≡ false → (t : Bool) → eqb (get_or b 14 0) 0 ≡ t
          → next_label (bare (Inventory family true m e)) bytes b ≡ during family m e 0 b
      not-taking q true z =
          let y = eqb-true (get_or b 14 0) 0 z in
          next_silent _ bytes b (load_of b) (inventory_asleep family m e (length bytes) b y)
          ∙ store_load b f (omega (arith, sized_long b ok.sized))
          ∙ sym (clear_own b f ok y)
          ∙ sym (during_not family m e 0 b q)
      not-taking q false z =
          next_silent _ bytes b (ended (load_of b)) (inventory_not family m e (length bytes) b q (eqb-false (get_or b 14 0) 0 z))
          ∙ store_ended b
          ∙ sym (during_not family m e 0 b q)

      go : (t : Bool) → takes_part family b ≡ t → next_label (bare (Inventory family true m e)) bytes b ≡ during family m e 0 b
      go true q =
          next_turn _ bytes b (with_slot 0 m e (load_of b)) (inventory_taking family m e (length bytes) b q)
          ∙ store_seek b 0 m e
          ∙ sym (during_taking family m e 0 b q)
      go false q = not-taking q (eqb (get_or b 14 0) 0) refl

pub said_first : (family : Family) (m e n : ℕ) (b : List ℕ)
    → said_label (bare (Inventory family true m e)) n b ≡ (if takes_part family b && ends_in_slot (part 0 8 b) e m 0 then a.Found else a.Silent)
unfolding load_of
said_first family m e n b = go (takes_part family b) refl
  where
    asleep : takes_part family b ≡ false → (t : Bool) → eqb (get_or b 14 0) 0 ≡ t → said_label (bare (Inventory family true m e)) n b ≡ a.Silent
    asleep q true z = said_silent _ n b (load_of b) (inventory_asleep family m e n b (eqb-true (get_or b 14 0) 0 z))
    asleep q false z = said_silent _ n b (ended (load_of b)) (inventory_not family m e n b q (eqb-false (get_or b 14 0) 0 z))

    go : (t : Bool) → takes_part family b ≡ t
        → said_label (bare (Inventory family true m e)) n b ≡ (if t && ends_in_slot (part 0 8 b) e m 0 then a.Found else a.Silent)
    go true q = said_turn _ n b (with_slot 0 m e (load_of b)) (inventory_taking family m e n b q)
    go false q = asleep q (eqb (get_or b 14 0) 0) refl

module _ (family : Family) (m e : ℕ) (b : List ℕ) (ok : LabelFine b) (hm : m ≤ 60) (he : e < 2 ^ m) where
  long : 25 ≤ length b
  long = omega (arith, sized_long b ok.sized)

  fits : e < 256 ^ 8
  fits = mask_fits m e hm he

  -- with no slot, an end of frame does nothing
  pub next_none : (bytes : List ℕ) → next_label (bare EndOfFrame) bytes (clear b) ≡ clear b
  unfolding clear
  next_none bytes =
      next_silent _ bytes (seek 255 0 0 b) (with_slot 255 0 0 (load_of b)) (stepped_none 255 0 0 b long (omega arith) (length bytes) refl)
      ∙ store_again 255 0 0 b long (omega arith) 0 255 0 0

  pub said_none : (n : ℕ) → said_label (bare EndOfFrame) n (clear b) ≡ a.Silent
  unfolding clear
  said_none n = said_silent _ n (seek 255 0 0 b) (with_slot 255 0 0 (load_of b)) (stepped_none 255 0 0 b long (omega arith) n refl)

  pub step : (s : ℕ) (bytes : List ℕ) → s < 15 → next_label (bare EndOfFrame) bytes (during family m e s b) ≡ during family m e (suc s) b
  step s bytes h = go (takes_part family b) refl
    where
      go : (t : Bool) → takes_part family b ≡ t → next_label (bare EndOfFrame) bytes (during family m e s b) ≡ during family m e (suc s) b
      go true q =
          ap (next_label (bare EndOfFrame) bytes) (during_taking family m e s b q)
          ∙ next_turn _ bytes (seek s m e b) (with_slot (s + 1) m e (load_of b)) (stepped_more s m e b long fits (length bytes) (takes_awake family b q) h)
          ∙ store_again s m e b long fits 0 (s + 1) m e
          ∙ ap (λ (x : ℕ). seek x m e b) (add-one s)
          ∙ sym (during_taking family m e (suc s) b q)
      go false q =
          ap (next_label (bare EndOfFrame) bytes) (during_not family m e s b q) ∙ next_none bytes ∙ sym (during_not family m e (suc s) b q)

  pub last : (bytes : List ℕ) → next_label (bare EndOfFrame) bytes (during family m e 15 b) ≡ clear b
  last bytes = go (takes_part family b) refl
    where
      ends : takes_part family b ≡ true → next_label (bare EndOfFrame) bytes (seek 15 m e b) ≡ seek 255 0 0 b
      ends q =
          next_silent _ bytes (seek 15 m e b) (with_slot 255 0 0 (load_of b)) (stepped_last 15 m e b long fits (length bytes) (takes_awake family b q) refl)
          ∙ store_again 15 m e b long fits 0 255 0 0

      go : (t : Bool) → takes_part family b ≡ t → next_label (bare EndOfFrame) bytes (during family m e 15 b) ≡ clear b
      go true q = ap (next_label (bare EndOfFrame) bytes) (during_taking family m e 15 b q) ∙ ends q ∙ sym (clear_is b)
      go false q = ap (next_label (bare EndOfFrame) bytes) (during_not family m e 15 b q) ∙ next_none bytes

  pub said_step : (s n : ℕ) → s < 15
      → said_label (bare EndOfFrame) n (during family m e s b) ≡ (if takes_part family b && ends_in_slot (part 0 8 b) e m (suc s) then a.Found else a.Silent)
  unfolding load_of
  said_step s n h = go (takes_part family b) refl
    where
      go : (t : Bool) → takes_part family b ≡ t
          → said_label (bare EndOfFrame) n (during family m e s b) ≡ (if t && ends_in_slot (part 0 8 b) e m (suc s) then a.Found else a.Silent)
      go true q =
          ap (said_label (bare EndOfFrame) n) (during_taking family m e s b q)
          ∙ said_turn _ n (seek s m e b) (with_slot (s + 1) m e (load_of b)) (stepped_more s m e b long fits n (takes_awake family b q) h)
          ∙ ap (λ (x : ℕ). if ends_in_slot (part 0 8 b) e m x then a.Found else a.Silent) (add-one s)
      go false q = ap (said_label (bare EndOfFrame) n) (during_not family m e s b q) ∙ said_none n

  pub said_last : (n : ℕ) → said_label (bare EndOfFrame) n (during family m e 15 b) ≡ a.Silent
  said_last n = go (takes_part family b) refl
    where
      go : (t : Bool) → takes_part family b ≡ t → said_label (bare EndOfFrame) n (during family m e 15 b) ≡ a.Silent
      go true q =
          ap (said_label (bare EndOfFrame) n) (during_taking family m e 15 b q)
          ∙ said_silent _ n (seek 15 m e b) (with_slot 255 0 0 (load_of b)) (stepped_last 15 m e b long fits n (takes_awake family b q) refl)
      go false q = ap (said_label (bare EndOfFrame) n) (during_not family m e 15 b q) ∙ said_none n

-- ---- its rules

pub clear_bytes : (b : List ℕ) → Bytes b → Bytes (clear b)
unfolding clear
clear_bytes b f = seek_bytes 255 0 0 b (omega arith) (omega arith) f

pub during_bytes : (family : Family) (m e s : ℕ) (b : List ℕ) → Bytes b → m ≤ 60 → s ≤ 15 → Bytes (during family m e s b)
during_bytes family m e s b f hm hs = during_both family m e s b Bytes (seek_bytes s m e b (omega arith) (omega arith) f) (clear_bytes b f)

pub clear_fine : (b : List ℕ) → Bytes b → LabelFine b → LabelFine (clear b)
clear_fine b f ok =
    let p = load_proper b f ok in
    rw (clear_is b, ← store_seek b 255 0 0)
    (stored_fine b (with_slot 255 0 0 (load_of b)) ok (proper_idle (load_of b) _ _ _ _ p.dsfid p.afi p.locks p.state))

pub during_fine : (family : Family) (m e s : ℕ) (b : List ℕ) → Bytes b → LabelFine b → m ≤ 60 → e < 2 ^ m → s ≤ 15 → LabelFine (during family m e s b)
during_fine family m e s b f ok hm he hs = go (takes_part family b) refl
  where
    go : (t : Bool) → takes_part family b ≡ t → LabelFine (during family m e s b)
    go true q =
        rw (during_taking family m e s b q, ← store_seek b s m e)
        (stored_fine b (with_slot s m e (load_of b)) ok (proper_slot (load_of b) s m e (load_proper b f ok) (takes_ready family b q) hs hm he))
    go false q = rw (during_not family m e s b q) (clear_fine b f ok)

-- ---- what an answer to an Inventory says

pub found_frame : (b : List ℕ) → answer_frame a.Found b ≡ framed (0 ∷ get_or b 8 0 ∷ part 0 8 b)
unfolding answer_frame
found_frame b = refl
