-- What stood in the answer buffer before an event does not matter to what is said of it. Assumes nothing.
use Rattle.std.proofs.Common.{◌≡◌, ℕ, ◌≤◌, Bool, true, false, eqb, List, [], ◌∷◌, length, drop, sym, refl, ap, ◌∙◌, ap₂, take_at, le-ltb, if◌then◌else◌}
use Rattle.frame.specs.Number.{part}
use Rattle.rack.specs.Tag.{aired}
use Rattle.event.specs.declared.call.Report.{Report}
use Rattle.event.specs.Event.{Outcome, answers, opened, length_alone, refused, played, least, refusal_of, event_of}
use Rattle.tell.specs.Lines.{reply_text, front_text, quiet_text}
use Rattle.play.specs.Told.{left, beside_reply, told_text}

-- two outcomes with one report, one rack and the same bytes of an answer
pub record Alike (a b : Outcome) : Type 0 where
  pub reports : a.report ≡ b.report
  pub racks : a.rack ≡ b.rack
  pub answers : part 0 a.report.length a.out ≡ part 0 a.report.length b.out

-- ---- an event in any two buffers with room for an answer

alone_alike : (l : List (List ℕ)) (out other : List ℕ) → part 0 (length_alone l) (opened l out) ≡ part 0 (length_alone l) (opened l other)
alone_alike [] out other = refl
alone_alike (f ∷ []) out other =
    take_at f (drop (length f) out) (length f) refl ∙ sym (take_at f (drop (length f) other) (length f) refl)
alone_alike (f ∷ g ∷ fs) out other = refl

module _ (r : List ℕ) (number : ℕ) (f ds out other : List ℕ) (h : least ≤ length out) (k : least ≤ length other) where
  refusal_alike : refusal_of r number (length ds) (length other) ≡ refusal_of r number (length ds) (length out)
  unfolding refusal_of
  refusal_alike = rw (le-ltb (length out) least h, le-ltb (length other) least k) refl

  pub event_alike : Alike (event_of r number f ds out) (event_of r number f ds other)
  unfolding event_of
  event_alike = rw refusal_alike (by (eqb n 0))
    where
      n : ℕ
      n = refusal_of r number (length ds) (length out)

      by : (b : Bool)
          → Alike (if b then played r (aired number f) ds out else refused n r out) (if b then played r (aired number f) ds other else refused n r other)
      by true = record { reports = refl; racks = refl; answers = alone_alike (answers r (aired number f) ds) out other }
      by false = record { reports = refl; racks = refl; answers = refl }

-- ---- what is said of outcomes that are alike: of the answer buffer only an answer's bytes are read

module _ (n number : ℕ) where
  quiet_part : (report : Report) (out other : List ℕ) → part 0 report.length out ≡ part 0 report.length other
      → quiet_text n number report out ≡ quiet_text n number report other
  unfolding quiet_text reply_text
  quiet_part report out other e = rw e refl

  told_part : (f ds old rack : List ℕ) (report : Report) (out other : List ℕ) → part 0 report.length out ≡ part 0 report.length other
      → told_text n number f ds old (left report rack out) ≡ told_text n number f ds old (left report rack other)
  unfolding told_text front_text reply_text beside_reply
  told_part f ds old rack report out other e = rw e refl

  module _ {a b : Outcome} (e : Alike a b) where
    pub quiet_alike : quiet_text n number a.report a.out ≡ quiet_text n number b.report b.out
    quiet_alike =
        quiet_part a.report a.out b.out e.answers ∙ ap (λ (w : Report). quiet_text n number w b.out) e.reports

    pub told_alike : (f ds old : List ℕ) → told_text n number f ds old a ≡ told_text n number f ds old b
    told_alike f ds old =
        told_part f ds old a.rack a.report a.out b.out e.answers
        ∙ ap₂ (λ (w : Report) (r : List ℕ). told_text n number f ds old (left w r b.out)) e.reports e.racks
