-- The outcome of an event, by the refusal that applies first; where none applies, by how many answered. A frame that is alone was read in the
-- next rack, from a body that still says it: the body that the answerer had before its step gives the same bytes. The outcome leaves nothing
-- open (`only_one`). Assumes nothing.
use Rattle.std.specs.Prelude.{if◌then◌else◌, is_ok, Ok, Err}
use mathlib.Core.Path.{◌≡◌, refl, ap, sym, ◌∙◌}
use mathlib.Core.Bool.{Bool, true, false, not, ◌&&◌}
use mathlib.Core.List.{List, [], ◌∷◌}
use Prim.Native.Nat.{ℕ, suc, ◌≤◌}
use native.Mathlib.Omega.{arith}
use borrow.Author.Tests.{eq-eqb, ne_eqb, eqb-true, leb-true, ltb-false, not-false}
use lib.Dec.{eqb, ltb, leb}
use lib.ListN.{length, get_or}
use lib.Seq.{sets}
use Rattle.frame.specs.Choose.{gather}
use Rattle.frame.specs.Number.{part, Bytes}
use Rattle.frame.proofs.Numbers.{bytes_part}
use Rattle.frame.specs.Judge.{Verdict, fine}
use Rattle.frame.specs.declared.refusal.Refusal.{Refusal}
use Rattle.frame.specs.declared.refusal.Refusal.TheVariants.{Rack, Draws, Room, Event as NoEvent, List as NoRoom, Twins, Fields, Frame, Meaning}
use Rattle.frame.specs.Refusal.{refusal_number}
use Rattle.frame.proofs.Bools.{and_both}
use Rattle.frame.proofs.Puts.{sets_front}
use Rattle.request.specs.Label.{data_of}
use Rattle.request.specs.Signal.{signal_of}
use Rattle.request.specs.declared.signal.Signal.{Signal}
use Rattle.label_body.proofs.FactsFine as label-fine
use Rattle.label_body.proofs.AnswerFrames as label-answers
use Rattle.chip_body.specs.Body.{said_chip}
use Rattle.chip_body.proofs.AnswerFrames as chip-answers
use Rattle.rack.specs.declared.tag.Said.{Said}
use Rattle.rack.specs.declared.tag.Kind.{Kind}
use Rattle.rack.specs.declared.tag.Kind.TheVariants.{Label, Chip, Other}
use Rattle.rack.specs.File.{count_of, kind_at, length_at, offset_at, start_of, body_at, body_rules, verdict_of}
use Rattle.rack.specs.Facts.{RackFine, TagFine, Tellable, body_of}
use Rattle.rack.specs.Tag.{Event, carrying, aired, next_body, said_by, frame_of}
use Rattle.rack.proofs.FileVerdict.{rack_fine}
use Rattle.rack.proofs.FileRebuilt.{tag_fine}
use Rattle.rack.proofs.TagKinds.{label_sized, frame_same, sayable_next, signal_sound}
use Rattle.event.specs.declared.call.Report.{Report}
use Rattle.event.specs.Event.{answer, answers, next_rack, opened, length_alone, played, least, refusal_of, event_of, Replied}
use Rattle.event.specs.Pass.{AloneBy}
use Rattle.event.proofs.EventNext.{next_length, next_length_at, next_offset, next_start, body_next, next_fine}

-- no refusal has the number 0
pub refusal_some : (e : Refusal) → refusal_number e ≡ 0 → ⊥
refusal_some Rack h = omega arith
refusal_some Draws h = omega arith
refusal_some Room h = omega arith
refusal_some NoEvent h = omega arith
refusal_some NoRoom h = omega arith
refusal_some Twins h = omega arith
refusal_some Fields h = omega arith
refusal_some Frame h = omega arith
refusal_some Meaning h = omega arith

-- the first of all: the rack is bad
pub gives_bad : (r : List ℕ) (number draws room : ℕ) → (verdict_of r ≡ fine → ⊥) → 1 ≡ refusal_of r number draws room
unfolding refusal_of
gives_bad r number draws room h = go (verdict_of r) refl
  where
    go : (v : Verdict) → verdict_of r ≡ v → 1 ≡ refusal_of r number draws room
    go (Ok u) e = absurd (h e)
    go (Err o) e = rw e refl

-- ---- what no refusal tells

if_none : (t : Bool) (n m : ℕ) → (if t then suc n else m) ≡ 0 → (t ≡ false) × (m ≡ 0)
if_none true n m e = absurd (omega arith)
if_none false n m e = (refl, e)

is_fine : (v : Verdict) → not (is_ok v) ≡ false → v ≡ fine
is_fine (Ok u) e = refl
is_fine (Err o) e = absurd (cc)

pub record Playable (r : List ℕ) (number draws room : ℕ) : Type 0 where
  pub rack : RackFine r
  pub drawn : draws ≡ count_of r
  pub space : least ≤ room
  pub low : 1 ≤ number
  pub high : number ≤ 5

pub playable : (r : List ℕ) (number draws room : ℕ) → refusal_of r number draws room ≡ 0 → Playable r number draws room
unfolding refusal_of
playable r number draws room h =
    let a = if_none (not (is_ok (verdict_of r))) 0 _ h in
    let b = if_none (not (eqb draws (count_of r))) 1 _ a.1 in
    let d = if_none (ltb room least) 2 _ b.1 in
    let n = if_none (not (leb 1 number && leb number 5)) 3 0 d.1 in
    let m = and_both (leb 1 number) (leb number 5) (not-false _ n.0) in
    record {
      rack = rack_fine r (is_fine _ a.0);
      drawn = eqb-true _ _ (not-false _ b.0);
      space = ltb-false _ _ d.0;
      low = leb-true _ _ m.0;
      high = leb-true _ _ m.1;
    }

-- ---- the outcome

-- the event, as the code decodes it
pub event_is : (number : ℕ) (f : List ℕ) (signal : Signal) (bytes : List ℕ) → signal ≡ signal_of number f → bytes ≡ data_of f
    → carrying signal bytes ≡ aired number f
event_is number f signal bytes p q = rw (p, q)

pub not_alone : (l : List (List ℕ)) (out : List ℕ) → (length l ≡ 1 → ⊥) → (0 ≡ length_alone l) × (out ≡ opened l out)
not_alone [] out z = (refl, refl)
not_alone (f ∷ []) out z = absurd (z refl)
not_alone (f ∷ g ∷ fs) out z = (refl, refl)

-- a tag's frame fits in every answer buffer
pub frame_short : (kind : Kind) (event : Event) (d : ℕ) (b : List ℕ) → Bytes b → TagFine kind b → length (frame_of (said_by kind event d b) b) ≤ least
unfolding said_by frame_of body_rules
frame_short Label event d b bs f =
    let told = label-answers.told_of event.signal.label (length event.bytes) b in
    label-answers.frame_short _ b (label_sized b f) (omega (arith, bs 11)) (label-fine.size_of b f.rules) told
frame_short Chip event d b bs f = omega (arith, chip-answers.frame_short (said_chip event.signal.chip d b) b)
frame_short Other event d b bs f = omega arith

-- the rack that is left is well-formed
pub rack_left : (r : List ℕ) (number : ℕ) (f : List ℕ) (event : Event) (ds xs : List ℕ) → RackFine r → Bytes r → Bytes f → Bytes ds
    → event ≡ aired number f → xs ≡ next_rack r event ds → RackFine xs
rack_left r number f event ds xs ok br bf bd is x = rw x (next_fine r event ds ok br bd (rw is (signal_sound number f bf)))

-- ---- one answered: tag w, which said `said`; xs is the next rack
module _ (r : List ℕ) (event : Event) (ds : List ℕ) (ok : RackFine r) (w : ℕ) (said : Said) (xs : List ℕ) (alone : AloneBy r event ds (count_of r) w said)
    (x : xs ≡ next_rack r event ds) where
  -- its body where its entry says, in the next rack
  body_told : body_of xs w ≡ next_body (kind_at r w) event (get_or ds w 0) (body_at r w)
  body_told =
      let there = alone.below in
      let y = next_rack r event ds in
      let o : offset_at y w ≡ start_of y w =
      next_offset r event ds ok w there ∙ (ok.entry w there).placed ∙ sym (next_start r event ds ok w (omega (arith, there))) in
      ap (λ (l : List ℕ). body_of l w) x ∙ ap (λ (n : ℕ). part n (length_at y w) y) o ∙ body_next r event ds ok w there

  pub frame_told : frame_of said (body_of xs w) ≡ frame_of said (body_at r w)
  frame_told =
      rw (body_told, alone.says) (frame_same (kind_at r w) event (get_or ds w 0) (body_at r w) (tag_fine r ok w alone.below))

  short_told : Bytes r → length (frame_of said (body_at r w)) ≤ least
  short_told bs =
      rw alone.says
      (frame_short (kind_at r w) event (get_or ds w 0) (body_at r w) (bytes_part (start_of r w) (length_at r w) r bs) (tag_fine r ok w alone.below))

  -- its frame has room where an event is not refused
  pub fits_told : {n : ℕ} → Bytes r → least ≤ n → length (frame_of said (body_of xs w)) ≤ n
  fits_told bs h = rw frame_told (omega (arith, h, short_told bs))

  -- what the answer's writer needs of the next rack
  pub tellable : Tellable xs w said
  tellable =
      let there = alone.below in
      let l : length xs ≡ length r = ap length x ∙ next_length r event ds ok in
      record {
        few = omega (arith, ok.head.few, there);
        in_file = omega (arith, (ok.entry w there).in_file, l);
        inside =
            omega (
              arith,
              (ok.body w there).in_file,
              (ok.entry w there).placed,
              ap (λ (y : List ℕ). offset_at y w) x ∙ next_offset r event ds ok w there,
              ap (λ (y : List ℕ). length_at y w) x ∙ next_length_at r event ds ok w there,
              l,
            );
        says = rw (body_told, alone.says) (sayable_next (kind_at r w) event (get_or ds w 0) (body_at r w) (tag_fine r ok w there));
      }

-- ---- what event shows
module _ (r : List ℕ) (number : ℕ) (f ds out : List ℕ) where
  -- refused
  pub shows_refused : (e : Refusal) → refusal_number e ≡ refusal_of r number (length ds) (length out)
      → Replied r number f ds out (record { number = refusal_number e; answered = 0; length = 0 }) r out
  unfolding event_of
  shows_refused e q =
      let h = refusal_some e in
      record { reports = rw (← q, ne_eqb _ _ h) refl; leaves = rw (← q, ne_eqb _ _ h) refl; writes = rw (← q, ne_eqb _ _ h) refl }

  -- not refused: a tags answered, and the rack is xs
  module _ (none : refusal_of r number (length ds) (length out) ≡ 0) (event : Event) (is : event ≡ aired number f) (a : ℕ) (xs : List ℕ)
      (h : a ≡ length (gather (count_of r) (answer r event ds))) (x : xs ≡ next_rack r event ds) where
    goes_on : event_of r number f ds out ≡ played r event ds out
    unfolding event_of
    goes_on = rw (eq-eqb _ _ none) (ap (λ (t : Event). played r t ds out) (sym is))

    -- none answered, or several
    pub shows_silent : (a ≡ 1 → ⊥) → Replied r number f ds out (record { number = 0; answered = a; length = 0 }) xs out
    unfolding answers
    shows_silent z =
        let n = not_alone (gather (count_of r) (answer r event ds)) out (λ (y : length (gather (count_of r) (answer r event ds)) ≡ 1). z (h ∙ y)) in
        record { reports = rw goes_on (cc (h, n.0)); leaves = rw goes_on x; writes = rw goes_on n.1 }

    -- one answered, and its frame, n bytes, was written over the front of the answer buffer
    pub shows_alone : Bytes r → a ≡ 1 → (w : ℕ) (said : Said) → AloneBy r event ds (count_of r) w said → (n : ℕ) (o : List ℕ)
        → n ≡ length (frame_of said (body_of xs w)) → o ≡ sets out 0 (frame_of said (body_of xs w))
        → Replied r number f ds out (record { number = 0; answered = a; length = n }) xs o
    unfolding answers
    shows_alone bs z w said by n o le oe =
        let may = playable r number (length ds) (length out) none in
        let told = frame_told r event ds may.rack w said xs by x in
        let fits : length (frame_of said (body_at r w)) ≤ length out = rw told at (fits_told r event ds may.rack w said xs by x bs may.space) in
        record {
          reports = rw (goes_on, by.one) (rw (z, le, told));
          leaves = rw goes_on x;
          writes = rw (goes_on, by.one) (rw (oe, told) (sets_front (frame_of said (body_at r w)) out fits));
        }

-- ---- two replies that meet the statement of an event are equal
pub only_one : (r : List ℕ) (number : ℕ) (f ds out : List ℕ) (v w : Report) (r₁ r₂ out₁ out₂ : List ℕ)
    → Replied r number f ds out v r₁ out₁ → Replied r number f ds out w r₂ out₂ → (v ≡ w) × ((r₁ ≡ r₂) × (out₁ ≡ out₂))
only_one r number f ds out v w r₁ r₂ out₁ out₂ p q = (p.reports ∙ sym q.reports, (p.leaves ∙ sym q.leaves, p.writes ∙ sym q.writes))
