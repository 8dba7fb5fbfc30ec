-- One tag: each law of a label's body and of a chip's, as one law by the kind. A body of kind `Other` stays as it is and says nothing, and no
-- length fits that kind. A sound signal is what a decoded event is. Assumes nothing.
use Rattle.std.specs.Prelude.{IfErr, Ok, Err}
use mathlib.Core.Path.{◌≡◌, refl}
use mathlib.Core.Bool.{true, not, ◌&&◌, ◌||◌, false≢true}
use mathlib.Core.List.{List}
use Prim.Native.Nat.{ℕ, ◌≤◌, ◌<◌}
use native.Mathlib.Omega.{arith}
use borrow.Author.Tests.{eqb-true, leb-true}
use lib.Dec.{eqb, ltb, leb}
use lib.ListN.{length, get_or}
use Rattle.frame.specs.Number.{Bytes}
use Rattle.frame.specs.Judge.{Verdict, fine}
use Rattle.frame.proofs.Bools.{and_both, if_both}
use Rattle.label.specs.declared.step.Answer.{Answer}
use Rattle.label.specs.declared.step.Answer.TheVariants as a
use Rattle.label_body.specs.Body.{Sized, label_rules, next_label}
use Rattle.label_body.specs.Facts.{LabelFine, AnswerFits}
use Rattle.request.proofs.LabelSound as label-decoded
use Rattle.label_body.proofs.LocksLaws.{room_same, Within}
use Rattle.label_body.proofs.FactsFine as label-fine
use Rattle.label_body.proofs.BodyKeeps as label-keeps
use Rattle.label_body.proofs.AnswerFrames as label-answers
use Rattle.label_body.proofs.BodyRoom.{sized_long}
use Rattle.label_body.proofs.Floor.{numbers_stay}
use Rattle.chip_body.specs.Body.{chip_rules}
use Rattle.chip_body.proofs.BodyKeeps as chip-keeps
use Rattle.request.proofs.ChipSound as chip-decoded
use Rattle.chip_body.proofs.AnswerFrames as chip-answers
use Rattle.rack.specs.File.{Kind, Label, Chip, Other}
use Rattle.rack.specs.File.{length_fits, body_rules}
use Rattle.rack.specs.Facts.{TagFine, Sayable}
use Rattle.rack.specs.Tag.{Event, aired, next_body, said_by, frame_of}

-- ---- sound signals

pub record SignalSound (event : Event) : Type 0 where
  pub call : label-decoded.Sound event.signal.label.call
  pub sent : Bytes event.bytes
  pub asked : chip-decoded.Sound event.signal.chip

-- what every event and frame make
pub signal_sound : (number : ℕ) (f : List ℕ) → Bytes f → SignalSound (aired number f)
signal_sound number f b =
    record {
      call = label-decoded.heard_sound number f b;
      sent = label-decoded.data_bytes f b;
      asked = chip-decoded.heard_sound number f b;
    }

-- ---- what a length that fits is

pub fits_label : (n : ℕ) → length_fits Label n ≡ true → (34 ≤ n) × (n ≤ 8480)
unfolding length_fits
fits_label n h =
    let p = and_both (leb 34 n) (leb n 8480) h in
    (leb-true 34 n p.0, leb-true n 8480 p.1)

pub fits_chip : (n : ℕ) → length_fits Chip n ≡ true → n ≡ 80
unfolding length_fits
fits_chip n h = eqb-true n 80 h

pub fits_none : (n : ℕ) → length_fits Other n ≡ true → ⊥
unfolding length_fits
fits_none n h = false≢true h

-- ---- what a fine body of its kind is

label_kept : (b : List ℕ) → TagFine Label b → label_rules b ≡ fine
unfolding body_rules
label_kept b f = f.rules

pub label_sized : (b : List ℕ) → TagFine Label b → Sized b
label_sized b f = label-fine.sized_of b (label_kept b f)

pub label_long : (b : List ℕ) → TagFine Label b → 32 ≤ length b
label_long b f = sized_long b (label_sized b f)

pub label_facts : (b : List ℕ) → Bytes b → TagFine Label b → LabelFine b
label_facts b bytes f = label-fine.rules_fine b bytes (label_kept b f)

pub chip_facts : (b : List ℕ) → TagFine Chip b → chip-keeps.ChipFine b
unfolding body_rules
chip_facts b f = chip-keeps.rules_fine b f.rules

pub chip_80 : (b : List ℕ) → TagFine Chip b → length b ≡ 80
chip_80 b f = fits_chip (length b) f.fits

-- ---- the place of an offence, in the body

within_place : (k : ℕ) (v : Verdict) → Within k v → IfErr v (λ o. o.place ≤ k)
within_place k (Ok u) h = tt
within_place k (Err o) h = h

pub label_place : (b : List ℕ) → length_fits Label (length b) ≡ true → IfErr (label_rules b) (λ o. o.place ≤ 8480)
label_place b f = within_place 8480 (label_rules b) (label-fine.rules_place b (fits_label (length b) f).1)

pub chip_place : (b : List ℕ) → IfErr (chip_rules b) (λ o. o.place ≤ 8480)
unfolding chip_rules
chip_place b =
    let P : Verdict → Type 0 = λ v. IfErr v (λ o. o.place ≤ 8480) in
    if_both P (ltb 5 (get_or b 76 0)) (omega arith)
    (if_both P (eqb (get_or b 76 0) 0 && not (eqb (get_or b 77 0) 0)) (omega arith)
    (if_both P (ltb 1 (get_or b 78 0) || (eqb (get_or b 78 0) 1 && not (eqb (get_or b 76 0) 3))) (omega arith)
    (if_both P
    (ltb 1 (get_or b 79 0) || (eqb (get_or b 79 0) 1 && (not (eqb (get_or b 76 0) 0) && not (eqb (get_or b 77 0) (get_or b 64 0)))))
    (omega arith) tt)))

-- ---- a step

pub body_length : (kind : Kind) (event : Event) (d : ℕ) (b : List ℕ) → length (next_body kind event d b) ≡ length b
unfolding next_body
body_length Label event d b = label-keeps.next_length event.signal.label event.bytes b
body_length Chip event d b = chip-keeps.next_length event.signal.chip d b
body_length Other event d b = refl

-- a body of bytes that takes a step
pub record Stepping (kind : Kind) (event : Event) (d : ℕ) (b : List ℕ) : Type 0 where
  pub bytes : Bytes b
  pub draw : d < 256
  pub sound : SignalSound event
  pub fine : TagFine kind b

-- bytes stay bytes
pub body_bytes : (kind : Kind) (event : Event) (d : ℕ) (b : List ℕ) → Stepping kind event d b → Bytes (next_body kind event d b)
unfolding next_body
body_bytes Label event d b s =
    let g = label_facts b s.bytes s.fine in
    label-keeps.next_bytes event.signal.label event.bytes b s.bytes s.sound.sent g s.sound.call
body_bytes Chip event d b s = chip-keeps.next_bytes event.signal.chip d b s.bytes s.draw
body_bytes Other event d b s = s.bytes

keeps : (kind : Kind) (event : Event) (d : ℕ) (b : List ℕ) → Stepping kind event d b → body_rules kind (next_body kind event d b) ≡ fine
unfolding next_body body_rules
keeps Label event d b s =
    let g = label_facts b s.bytes s.fine in
    let m = label-keeps.next_keeps event.signal.label event.bytes b s.bytes g s.sound.call in
    label-fine.fine_rules (next_label event.signal.label event.bytes b) (body_bytes Label event d b s) m
keeps Chip event d b s = chip-keeps.next_keeps event.signal.chip d b (chip_80 b s.fine) s.bytes s.fine.rules
keeps Other event d b s = refl

-- a step keeps the rules
pub step_keeps : (kind : Kind) (event : Event) (d : ℕ) (b : List ℕ) → Stepping kind event d b → TagFine kind (next_body kind event d b)
step_keeps kind event d b s = record { fits = rw (body_length kind event d b) s.fine.fits; rules = keeps kind event d b s }

-- ---- what it says

-- the blocks that are told are there while the number of blocks stays
told_same : (x : Answer) (b c : List ℕ) → get_or c 11 0 ≡ get_or b 11 0 → AnswerFits x b → AnswerFits x c
unfolding AnswerFits
told_same a.Silent b c e t = t
told_same (a.Error code) b c e t = t
told_same a.Done b c e t = t
told_same a.Found b c e t = t
told_same (a.Block n lock) b c e t = rw e t
told_same a.Info b c e t = t
told_same (a.Blocks n more) b c e t = rw e t
told_same (a.LocksAndBlocks n more) b c e t = rw e t
told_same (a.Locks n more) b c e t = rw e t

sized_same : (b c : List ℕ) → length c ≡ length b → get_or c 11 0 ≡ get_or b 11 0 → get_or c 12 0 ≡ get_or b 12 0 → Sized b → Sized c
unfolding Sized
sized_same b c l p q z = rw (l, room_same b c p, p, q) z

-- the frame is the same from the old body and from the next
pub frame_same : (kind : Kind) (event : Event) (d : ℕ) (b : List ℕ) → TagFine kind b
    → frame_of (said_by kind event d b) (next_body kind event d b) ≡ frame_of (said_by kind event d b) b
unfolding next_body said_by frame_of
frame_same Label event d b f = label-answers.same_frame event.signal.label event.bytes b (label_sized b f)
frame_same Chip event d b f = chip-answers.same_frame event.signal.chip d b (chip_80 b f)
frame_same Other event d b f = refl

-- the answer's writer has what it needs in the next body
pub sayable_next : (kind : Kind) (event : Event) (d : ℕ) (b : List ℕ) → TagFine kind b → Sayable (said_by kind event d b) (next_body kind event d b)
unfolding next_body said_by Sayable
sayable_next Label event d b f =
    let c = next_label event.signal.label event.bytes b in
    let p : get_or c 11 0 ≡ get_or b 11 0 = numbers_stay event.signal.label event.bytes b 11 (omega arith) (omega arith) in
    let q : get_or c 12 0 ≡ get_or b 12 0 = numbers_stay event.signal.label event.bytes b 12 (omega arith) (omega arith) in (
      sized_same b c (body_length Label event d b) p q (label_sized b f),
      told_same _ b c p (label-answers.told_of event.signal.label (length event.bytes) b),
    )
sayable_next Chip event d b f = omega (arith, chip_80 b f, body_length Chip event d b)
sayable_next Other event d b f = tt
