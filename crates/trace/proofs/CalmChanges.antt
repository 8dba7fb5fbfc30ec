-- Behind a calm frame nothing is told: no label has a line, no chip heard it, and a rack that the event is refused on is the one before.
-- Assumes nothing.
use mathlib.Core.Path.{◌≡◌, refl, sym, ap, ap₂, subst, ◌∙◌}
use mathlib.Core.Logic.{inl}
use mathlib.Core.Bool.{Bool, true, false, false≢true}
use mathlib.Core.List.{List, []}
use Prim.Native.Nat.{ℕ, zero, suc, ◌<◌}
use native.Mathlib.Omega.{arith}
use lib.Dec.{eqb, ltb}
use lib.ListN.{length, get_or}
use Rattle.frame.specs.Choose.{gather}
use Rattle.frame.specs.Number.{part}
use Rattle.frame.proofs.Bools.{if_both, if_same}
use Rattle.request.specs.Signal.{signal_of}
use Rattle.chip_body.proofs.Floor.{ignores_3_4}
use Rattle.rack.specs.declared.tag.Kind.{Kind}
use Rattle.rack.specs.declared.tag.Kind.TheVariants.{Label, Chip, Other}
use Rattle.rack.specs.File.{count_of, kind_at, length_at, offset_at, start_of, body_at}
use Rattle.rack.specs.Facts.{RackFine, body_of}
use Rattle.rack.specs.Tag.{Event, aired, next_body}
use Rattle.event.specs.Event.{Outcome, next_rack, refusal_of, event_of}
use Rattle.event.proofs.EventNext.{next_count, next_kind, next_offset, next_start, body_next}
use Rattle.trace.specs.Chips.{chip_told, chip_line}
use Rattle.trace.specs.Changes.{tag_line, lines_text, changes_text}
use Rattle.trace.specs.Calm.{calm_call, one_call, owned_by, may_differ, Only}
use Rattle.trace.proofs.CalmLabels.{same_all, no_line, calm_label, other_label}

-- ---- one tag

chip_same : (b : List ℕ) → chip_line b b ≡ []
unfolding chip_line chip_told
chip_same b = rw (same_all 80 0 b b (λ j g h. refl), if_same (ltb (length b) 80) false) refl

tag_same : (k : Kind) (b : List ℕ) → tag_line k b b ≡ []
unfolding tag_line
tag_same Label b = no_line b b (λ j h. refl) (λ j h. refl)
tag_same Chip b = chip_same b
tag_same Other b = refl

calm_tag : (k : Kind) (f : List ℕ) (d : ℕ) (b : List ℕ) → calm_call (signal_of 3 f).label.call ≡ true → tag_line k b (next_body k (aired 3 f) d b) ≡ []
unfolding tag_line next_body
calm_tag Label f d b h = calm_label _ b (signal_of 3 f).label h
calm_tag Chip f d b h = ap (chip_line b) (ignores_3_4 3 f d b (inl refl)).1 ∙ chip_same b
calm_tag Other f d b h = refl

-- a frame for one UID, and a tag that has another
other_tag : (k : Kind) (f : List ℕ) (d : ℕ) (b : List ℕ) → one_call (signal_of 3 f).label.call ≡ true
    → owned_by (signal_of 3 f).label.uid k b ≡ false → tag_line k b (next_body k (aired 3 f) d b) ≡ []
unfolding tag_line next_body owned_by
other_tag Label f d b o n = other_label _ b (signal_of 3 f).label o n
other_tag Chip f d b o n = ap (chip_line b) (ignores_3_4 3 f d b (inl refl)).1 ∙ chip_same b
other_tag Other f d b o n = refl

may_not : (one : Bool) (uid : List ℕ) (k : Kind) (b : List ℕ) → may_differ one uid k b ≡ false → (one ≡ true) × (owned_by uid k b ≡ false)
unfolding may_differ
may_not true uid k b e = (refl, e)
may_not false uid k b e = absurd (false≢true (sym e))

-- ---- all tags

gather_nothing : (n : ℕ) (g : ℕ → List ℕ) → ((i : ℕ) → i < n → g i ≡ []) → gather n g ≡ []
unfolding gather
gather_nothing zero g h = refl
gather_nothing (suc n) g h = rw (gather_nothing n g (λ i l. h i (omega arith)), h n (omega arith)) refl

-- no tag has a line
untold : (r y : List ℕ) → ((i : ℕ) → i < count_of y → tag_line (kind_at y i) (body_of r i) (body_of y i) ≡ []) → changes_text r y ≡ []
unfolding changes_text lines_text
untold r y h = if_both (λ (x : List ℕ). x ≡ []) (eqb (count_of r) (count_of y)) (gather_nothing (count_of y) _ h) refl

module _ (r : List ℕ) (ok : RackFine r) (event : Event) (ds : List ℕ) where
  abbrev behind : List ℕ
  behind = next_rack r event ds

  body_was : (i : ℕ) → i < count_of r → body_of r i ≡ body_at r i
  body_was i h = ap (λ (at : ℕ). part at (length_at r i) r) (ok.entry i h).placed

  -- its body where its entry says, in the next rack
  body_behind : (i : ℕ) → i < count_of r → body_of behind i ≡ next_body (kind_at r i) event (get_or ds i 0) (body_at r i)
  body_behind i h =
      let o : offset_at behind i ≡ start_of behind i =
      next_offset r event ds ok i h ∙ (ok.entry i h).placed ∙ sym (next_start r event ds ok i (omega (arith, h))) in
      ap (λ (at : ℕ). part at (length_at behind i) behind) o ∙ body_next r event ds ok i h

  there : (i : ℕ) → i < count_of behind → i < count_of r
  there i l = subst (λ (n : ℕ). i < n) (next_count r event ds ok) l

  -- the line of a tag is that of its step
  line_behind : (i : ℕ) → i < count_of r
      → tag_line (kind_at behind i) (body_of r i) (body_of behind i) ≡ tag_line (kind_at r i) (body_at r i) (next_body (kind_at r i) event (get_or ds i 0) (body_at r i))
  line_behind i h =
      ap (λ (k : Kind). tag_line k (body_of r i) (body_of behind i)) (next_kind r event ds ok i h)
      ∙ ap₂ (λ (x y : List ℕ). tag_line (kind_at r i) x y) (body_was i h) (body_behind i h)

module _ (r : List ℕ) (ok : RackFine r) (f ds : List ℕ) where
  only_rack : Only (one_call (signal_of 3 f).label.call) (signal_of 3 f).label.uid r (next_rack r (aired 3 f) ds)
  unfolding Only
  only_rack i l e =
      let h = there r ok (aired 3 f) ds i l in
      let n = may_not _ _ _ _ (subst (λ (b : List ℕ). may_differ (one_call (signal_of 3 f).label.call) (signal_of 3 f).label.uid (kind_at r i) b ≡ false)
      (body_was r ok (aired 3 f) ds i h) e) in
      line_behind r ok (aired 3 f) ds i h ∙ other_tag (kind_at r i) f (get_or ds i 0) (body_at r i) n.0 n.1

  -- what a frame for one UID changed is told of its owner alone
  pub only_owner : (out : List ℕ) → Only (one_call (signal_of 3 f).label.call) (signal_of 3 f).label.uid r (event_of r 3 f ds out).rack
  unfolding Only event_of
  only_owner out =
      if_both (λ (o : Outcome). Only (one_call (signal_of 3 f).label.call) (signal_of 3 f).label.uid r o.rack)
      (eqb (refusal_of r 3 (length ds) (length out)) 0) only_rack (λ i h e. tag_same (kind_at r i) (body_of r i))

-- where any tag may differ, nothing is said of any
pub only_any : (uid old new : List ℕ) → Only false uid old new
unfolding Only may_differ
only_any uid old new i h e = absurd (false≢true (sym e))

module _ (r : List ℕ) (ok : RackFine r) (f ds : List ℕ) (calm : calm_call (signal_of 3 f).label.call ≡ true) where
  calm_rack : changes_text r (next_rack r (aired 3 f) ds) ≡ []
  calm_rack =
      untold r (next_rack r (aired 3 f) ds)
      (λ i l.
      line_behind r ok (aired 3 f) ds i (there r ok (aired 3 f) ds i l) ∙ calm_tag (kind_at r i) f (get_or ds i 0) (body_at r i) calm)

  -- what a calm frame changed is nothing that is told
  pub calm_changes : (out : List ℕ) → changes_text r (event_of r 3 f ds out).rack ≡ []
  unfolding event_of
  calm_changes out =
      if_both (λ (o : Outcome). changes_text r o.rack ≡ []) (eqb (refusal_of r 3 (length ds) (length out)) 0) calm_rack
      (untold r r (λ i h. tag_same (kind_at r i) (body_of r i)))
