-- The rack that an event leaves: its contents are as they were, each body is the step of the old one, it is well-formed and made of bytes.
-- All by the laws of `rebuilt`, since the next rack is the old contents with the next bodies. Assumes nothing.
use mathlib.Core.Path.{◌≡◌, ap, sym, ◌∙◌}
use mathlib.Core.List.{List, ◌++◌, append_assoc}
use Prim.Native.Nat.{ℕ, zero, suc, ◌+◌, ◌≤◌, ◌<◌}
use native.Mathlib.Numerals.{add-one}
use native.Mathlib.Omega.{arith}
use lib.ListN.{length, get_or, take, drop, length-append}
use lib.Seq.{take_at, drop_at, drop-drop, length-take-le}
use Rattle.frame.specs.Choose.{gather}
use Rattle.frame.specs.Judge.{fine}
use Rattle.frame.specs.Number.{splice, Bytes}
use Rattle.frame.proofs.Numbers.{bytes_part}
use Rattle.rack.specs.File.{count_of, kind_at, length_at, offset_at, start_of, body_at, contents, rebuilt, verdict_of}
use Rattle.rack.specs.Facts.{RackFine}
use Rattle.rack.specs.Tag.{Event, next_body, answer_body}
use Rattle.frame.proofs.Gather.{gather_ext}
use Rattle.rack.proofs.FileRebuilt.{rebuilt_length, rebuilt_count, rebuilt_kind, rebuilt_length_at, rebuilt_offset, rebuilt_start, rebuilt_contents}
use Rattle.rack.proofs.FileRebuilt.{rebuilt_body, rebuilt_bytes, rebuilt_ext, rebuilt_again, rebuilt_fine, tag_fine}
use Rattle.rack.proofs.FileVerdict.{rack_fine, fine_rack}
use Rattle.rack.proofs.TagKinds.{SignalSound, Stepping, body_bytes, step_keeps}
use Rattle.event.specs.Event.{next, next_rack, answer, answers}
use Rattle.event.proofs.Pass.{passed, passed_none, passed_more, passed_all, next_sized}

-- ---- the next rack
module _ (r : List ℕ) (event : Event) (ds : List ℕ) (ok : RackFine r) where
  sized : (i : ℕ) → i < count_of r → length (next r event ds i) ≡ length_at r i
  sized = next_sized r event ds ok

  pub next_length : length (next_rack r event ds) ≡ length r
  unfolding next_rack
  next_length = rebuilt_length r ok.whole (next r event ds) sized

  pub next_count : count_of (next_rack r event ds) ≡ count_of r
  unfolding next_rack
  next_count = rebuilt_count r ok.whole (next r event ds) sized

  pub next_kind : (i : ℕ) → i < count_of r → kind_at (next_rack r event ds) i ≡ kind_at r i
  unfolding next_rack
  next_kind = rebuilt_kind r ok.whole (next r event ds) sized

  pub next_length_at : (i : ℕ) → i < count_of r → length_at (next_rack r event ds) i ≡ length_at r i
  unfolding next_rack
  next_length_at = rebuilt_length_at r ok.whole (next r event ds) sized

  pub next_offset : (i : ℕ) → i < count_of r → offset_at (next_rack r event ds) i ≡ offset_at r i
  unfolding next_rack
  next_offset = rebuilt_offset r ok.whole (next r event ds) sized

  pub next_start : (i : ℕ) → i ≤ count_of r → start_of (next_rack r event ds) i ≡ start_of r i
  unfolding next_rack
  next_start = rebuilt_start r ok.whole (next r event ds) sized

  -- the contents never change
  pub contents_stay : contents (next_rack r event ds) ≡ contents r
  unfolding next_rack
  contents_stay = rebuilt_contents r ok.whole (next r event ds) sized

  -- a tag's next body follows from its old body, the event and its draw alone
  pub body_next : (i : ℕ) → i < count_of r → body_at (next_rack r event ds) i ≡ next_body (kind_at r i) event (get_or ds i 0) (body_at r i)
  unfolding next_rack next
  body_next i h = rebuilt_body r ok.whole (next r event ds) sized i h

  module _ (bytes : Bytes r) (drawn : Bytes ds) (s : SignalSound event) where
    pub stepping : (i : ℕ) → i < count_of r → Stepping (kind_at r i) event (get_or ds i 0) (body_at r i)
    stepping i h = record { bytes = bytes_part (start_of r i) (length_at r i) r bytes; draw = drawn i; sound = s; fine = tag_fine r ok i h }

    -- bytes stay bytes
    pub next_bytes : Bytes (next_rack r event ds)
    unfolding next_rack next
    next_bytes = rebuilt_bytes r (next r event ds) bytes (λ i h. body_bytes (kind_at r i) event (get_or ds i 0) (body_at r i) (stepping i h))

    -- well-formed racks stay well-formed
    pub next_fine : RackFine (next_rack r event ds)
    unfolding next_rack next
    next_fine = rebuilt_fine r (next r event ds) ok sized (λ i h. step_keeps (kind_at r i) event (get_or ds i 0) (body_at r i) (stepping i h))

-- the same of verdicts
pub next_verdict : (r : List ℕ) (event : Event) (ds : List ℕ) → verdict_of r ≡ fine → Bytes r → Bytes ds → SignalSound event
    → verdict_of (next_rack r event ds) ≡ fine
next_verdict r event ds h b d s = fine_rack (next_rack r event ds) (next_fine r event ds (rack_fine r h) b d s)

-- ---- an event on a rack with other bodies is a law of bodies alone
module _ (r : List ℕ) (whole : start_of r (count_of r) ≡ length r) (g : ℕ → List ℕ) (sized : (i : ℕ) → i < count_of r → length (g i) ≡ length_at r i)
    (event : Event) (ds : List ℕ) where
  pub next_rebuilt : next_rack (rebuilt r g) event ds ≡ rebuilt r (λ i. next_body (kind_at r i) event (get_or ds i 0) (g i))
  unfolding next_rack next
  next_rebuilt =
      rebuilt_again r whole g sized (next (rebuilt r g) event ds)
      ∙ rebuilt_ext r _ _ (λ i h. rw (rebuilt_kind r whole g sized i h, rebuilt_body r whole g sized i h))

  pub answers_rebuilt : answers (rebuilt r g) event ds ≡ gather (count_of r) (λ i. answer_body (kind_at r i) event (get_or ds i 0) (g i))
  unfolding answers answer
  answers_rebuilt =
      ap (λ (n : ℕ). gather n (answer (rebuilt r g) event ds)) (rebuilt_count r whole g sized)
      ∙ gather_ext (count_of r) _ _ (λ i h. rw (rebuilt_kind r whole g sized i h, rebuilt_body r whole g sized i h))

-- ---- while a tag takes its step, only the bytes of its body may change

pub splice_outside : (at len : ℕ) (ys xs : List ℕ) → length ys ≡ len → at + len ≤ length xs
    → (take at (splice at len ys xs) ≡ take at xs) × (drop (at + len) (splice at len ys xs) ≡ drop (at + len) xs)
splice_outside at len ys xs l h =
    let p = length-take-le at xs (omega arith) in (
      take_at (take at xs) _ at p,
      rw (← append_assoc (take at xs) ys (drop len (drop at xs)))
          (drop_at (take at xs ++ ys) (drop len (drop at xs)) (at + len) (rw (length-append, p, l)) ∙ drop-drop len at xs),
    )

-- the next rack said as a fold: tag after tag, its part of the rack is replaced by its step
pub spliced : List ℕ → Event → List ℕ → ℕ → List ℕ
spliced r event ds zero = r
spliced r event ds (suc i) = splice (start_of r i) (length_at r i) (next r event ds i) (spliced r event ds i)

module _ (r : List ℕ) (event : Event) (ds : List ℕ) (ok : RackFine r) where
  spliced_is : (i : ℕ) → i ≤ count_of r → spliced r event ds i ≡ passed r event ds i
  unfolding spliced
  spliced_is zero h = sym (passed_none r event ds ok)
  spliced_is (suc i) h = rw (spliced_is i (omega arith)) (passed_more r event ds ok i h ∙ ap (passed r event ds) (add-one i))

  pub by_splices : spliced r event ds (count_of r) ≡ next_rack r event ds
  by_splices = spliced_is (count_of r) (omega arith) ∙ passed_all r event ds ok
