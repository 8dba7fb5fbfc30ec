-- A round on a rack of bytes: in each slot the rack and who answers, and the rack that is left. Idea: the rack in slot s is `rebuilt` of bodies
-- `during` slot s, so each law is one body's. Assumes nothing.
use mathlib.Core.Path.{◌≡◌, refl, ap, ◌∙◌}
use mathlib.Core.Bool.{true}
use mathlib.Core.List.{List, []}
use Prim.Native.Nat.{ℕ, zero, suc, ◌^◌, ◌≤◌, ◌<◌}
use native.Mathlib.Omega.{arith}
use lib.ListN.{length, get_or}
use Rattle.frame.specs.Choose.{gather}
use Rattle.frame.specs.Number.{part}
use Rattle.request.specs.declared.label.Family.{Family}
use Rattle.request.specs.declared.label.Call.TheVariants.{Inventory, EndOfFrame}
use Rattle.rack.specs.File.{count_of, kind_at, length_at, body_at, rebuilt}
use Rattle.rack.specs.Facts.{RackFine}
use Rattle.frame.proofs.Gather.{gather_ext}
use Rattle.rack.proofs.FileRebuilt.{body_long, rebuilt_ext, rebuilt_count}
use Rattle.event.specs.Event.{Outcome, next_rack, answers, opened, played, event_of}
use Rattle.event.proofs.EventNext.{next_rebuilt, answers_rebuilt}
use Rattle.inventory.specs.Walk.{PerEvent, slot_outcome, hits, cleared}
use Rattle.inventory.proofs.WalkSent.{event}
use Rattle.inventory.proofs.WalkBodies.{during_body, called, spoken, body_step, body_last, answer_step, during_size, during_part, during_rules}
use Rattle.inventory.proofs.WalkEvents.{Fine, tag, rebuilt_fine, Lent, lent_same, ends, opens, next_first, answers_first}

module _ (r : List ℕ) (fine : Fine r) (family : Family) (m e : ℕ) (short : m ≤ 60) (low : e < 2 ^ m) where
  -- the bodies in slot s
  abbrev pub bodies : ℕ → ℕ → List ℕ
  bodies s i = during_body family m e s (kind_at r i) (body_at r i)

  pub sized : (s i : ℕ) → i < count_of r → length (bodies s i) ≡ length_at r i
  sized s i h = during_size family m e s (kind_at r i) (body_at r i) ∙ body_long r fine.rack.whole i h

  pub bodies_fine : (s : ℕ) → s ≤ 15 → RackFine (rebuilt r (bodies s))
  bodies_fine s h = rebuilt_fine r (bodies s) fine.rack (λ i b. (sized s i b, during_rules (tag r fine i b) family m e s short low h))

  -- the body that slot s finds
  abbrev pub asked : ℕ → ℕ → List ℕ
  asked zero i = body_at r i
  asked (suc s) i = bodies s i

  pub asked_size : (s i : ℕ) → i < count_of r → length (asked s i) ≡ length_at r i
  asked_size zero i h = body_long r fine.rack.whole i h
  asked_size (suc s) i h = sized s i h

  pub asked_uid : (s i : ℕ) → i < count_of r → part 0 8 (asked s i) ≡ part 0 8 (body_at r i)
  asked_uid zero i h = refl
  asked_uid (suc s) i h = during_part family m e s (kind_at r i) (body_at r i)

  -- the frames heard in slot s
  abbrev pub frames : ℕ → List (List ℕ)
  frames s = gather (count_of r) (λ i. spoken (called family m e s (kind_at r i) (body_at r i)) (asked s i))

  -- ---- the rack and who answers, whatever the draws

  first_rack : (ds : List ℕ) → next_rack r (event (Inventory family true m e)) ds ≡ rebuilt r (bodies 0)
  first_rack ds = next_first r fine family m e [] ds

  step_rack : (ds : List ℕ) (s : ℕ) → s < 15 → next_rack (rebuilt r (bodies s)) (event EndOfFrame) ds ≡ rebuilt r (bodies (suc s))
  step_rack ds s h =
      next_rebuilt r fine.rack.whole (bodies s) (sized s) (event EndOfFrame) ds
      ∙ rebuilt_ext r _ _ (λ i b. body_step (tag r fine i b) family m e [] (get_or ds i 0) s short low h)

  last_rack : (ds : List ℕ) → next_rack (rebuilt r (bodies 15)) (event EndOfFrame) ds ≡ cleared r
  unfolding cleared
  last_rack ds =
      next_rebuilt r fine.rack.whole (bodies 15) (sized 15) (event EndOfFrame) ds
      ∙ rebuilt_ext r _ _ (λ i b. body_last (tag r fine i b) family m e [] (get_or ds i 0) short low)

  first_heard : (ds : List ℕ) → answers r (event (Inventory family true m e)) ds ≡ frames 0
  first_heard ds = answers_first r fine family m e [] ds

  step_heard : (ds : List ℕ) (s : ℕ) → s < 15 → answers (rebuilt r (bodies s)) (event EndOfFrame) ds ≡ frames (suc s)
  step_heard ds s h =
      answers_rebuilt r fine.rack.whole (bodies s) (sized s) (event EndOfFrame) ds
      ∙ gather_ext (count_of r) _ _ (λ i b. answer_step (tag r fine i b) family m e [] (get_or ds i 0) s short low h)

  -- ---- each slot, as it is sent: the Inventory, and then ends of frame

  module _ {draws out : PerEvent} (lent : Lent draws out r) where
    abbrev pub slot : ℕ → Outcome
    slot s = slot_outcome draws out r family m e s

    slot_none : slot 0 ≡ played r (event (Inventory family true m e)) (draws m e 0) (out m e 0)
    unfolding slot_outcome
    slot_none = opens r fine family m e lent short low

    pub slot_next : (s : ℕ) → s ≤ 15 → (slot s).rack ≡ rebuilt r (bodies s)
        → slot (suc s) ≡ played (rebuilt r (bodies s)) (event EndOfFrame) (draws m e (suc s)) (out m e (suc s))
    unfolding slot_outcome
    slot_next s h i =
        ap (λ (y : List ℕ). event_of y 4 [] (draws m e (suc s)) (out m e (suc s))) i
        ∙ ends (lent_same lent (rebuilt_count r fine.rack.whole (bodies s) (sized s))) (bodies_fine s h) m e (suc s)

    pub in_slot : (s : ℕ) → s ≤ 15 → (slot s).rack ≡ rebuilt r (bodies s)
    in_slot zero h = ap (λ (o : Outcome). o.rack) slot_none ∙ first_rack (draws m e 0)
    in_slot (suc s) h =
        let b : s ≤ 15 = omega arith in
        ap (λ (o : Outcome). o.rack) (slot_next s b (in_slot s b)) ∙ step_rack (draws m e (suc s)) s (omega arith)

    pub left_rack : (slot 16).rack ≡ cleared r
    left_rack = ap (λ (o : Outcome). o.rack) (slot_next 15 (omega arith) (in_slot 15 (omega arith))) ∙ last_rack (draws m e 16)

    pub heard_in : (s : ℕ) → s ≤ 15 → (hits (slot s) ≡ length (frames s)) × ((slot s).out ≡ opened (frames s) (out m e s))
    heard_in zero h = rw (slot_none, first_heard (draws m e 0)) (refl, refl)
    heard_in (suc s) h = rw (slot_next s (omega arith) (in_slot s (omega arith)), step_heard (draws m e (suc s)) s (omega arith)) (refl, refl)
