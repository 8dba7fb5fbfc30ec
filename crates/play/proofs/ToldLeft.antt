-- What an event leaves and what is said of it, from what the calls tell. Assumes nothing.
use Rattle.std.proofs.Common.{◌≡◌, ℕ, ◌≤◌, true, false, List, [], length, get_or, take, replicate, refl, ap, ◌∙◌, ap₂, arith}
use lib.ListN.{length-replicate}
use Rattle.frame.specs.Number.{Bytes}
use Rattle.frame.proofs.Numbers.{bytes_part}
use Rattle.print.specs.Line.{Lent, laid}
use Rattle.print.proofs.Lines.{laid_new, laid_whole, laid_then}
use Rattle.request.specs.Signal.{signal_of}
use Rattle.request.specs.declared.signal.Signal.{Signal}
use Rattle.rack.specs.Facts.{RackFine}
use Rattle.rack.proofs.FileVerdict.{rack_fine, fine_rack, most_bytes}
use Rattle.event.specs.declared.call.Report.{Report}
use Rattle.event.specs.Event.{least, event_of, Replied}
use Rattle.event.proofs.Floor.{left_fine}
use Rattle.tell.specs.Lines.{front_text, line_text, quiet_text}
use Rattle.trace.specs.Calm.{calm_call, one_call, Only}
use Rattle.trace.specs.Changes.{changes_text}
use Rattle.trace.proofs.CalmChanges.{calm_changes, only_owner}
use Rattle.script.specs.Lines.{draws_for}
use Rattle.play.specs.Facts.{Unchanged}
use Rattle.play.specs.Told.{draws_of, outcome_of, left, beside_reply, behind_reply, meaning_room, told_text, event_text, Played}
use Rattle.play.proofs.ToldAny.{Alike, event_alike, quiet_alike, told_alike}

-- ---- a rack and a meaning, read from where they were laid

-- a rack that was laid into a line of enough room stands there
pub kept : (line : Lent) (tags : List ℕ) → line.text ≡ [] → 65536 ≤ length line.behind → RackFine tags → (laid line tags).text ≡ tags
kept line tags e h ok = laid_whole line tags e (let m = most_bytes tags (fine_rack tags ok) in omega arith)

-- the line of a reply with what it means, and what a frame changed behind it
pub told_laid : (n number : ℕ) (f ds old new answer : List ℕ) (report : Report) (out line : Lent) {s : Signal} {t : List ℕ} {out₁ out₂ : Lent}
    → s ≡ signal_of number f → line.text ≡ [] → length line.behind ≡ meaning_room
    → t ≡ (laid line (beside_reply number f ds old (left report new answer))).text
    → out₁ ≡ laid out (line_text (front_text n number s report answer) t) → out₂ ≡ laid out₁ (behind_reply number old new)
    → out₂ ≡ laid out (told_text n number f ds old (left report new answer))
unfolding told_text
told_laid n number f ds old new answer report out line e v w k g h =
    let said = beside_reply number f ds old (left report new answer) in
    laid_then out _ _
    (g
    ∙ ap₂ (λ (s : Signal) (t : List ℕ). laid out (line_text (front_text n number s report answer) t)) e
    (k ∙ laid_new line said v ∙ ap (λ (m : ℕ). take m said) w))
    h

-- ---- an event, with the draws that are lent, of which there are k
module _ (tags frame draws : List ℕ) (number k : ℕ) (e : k ≡ draws_for (get_or tags 1 0) (length draws)) where
  lent : take k draws ≡ draws_of tags draws
  lent = ap (λ (m : ℕ). take m draws) e

  module _ {answer : List ℕ} (room : least ≤ length answer) {report : Report} {tags₁ answer₁ : List ℕ}
      (p : Replied tags number frame (take k draws) answer report tags₁ answer₁) where
    -- in a buffer of zeros it would be the same
    is_left : Alike (left report tags₁ answer₁) (outcome_of tags number frame draws)
    unfolding outcome_of
    is_left =
        let whole : left report tags₁ answer₁ ≡ event_of tags number frame (take k draws) answer = rw (p.reports, p.leaves, p.writes) refl in
        let zeros : least ≤ length {A = ℕ} (replicate least 0) = rw (length-replicate {A = ℕ} least 0) (omega arith) in
        rw (whole, lent) (event_alike tags number frame (draws_of tags draws) answer (replicate least 0) room zeros)

    pub fine_left : RackFine tags → Bytes tags → Bytes frame → Bytes draws → RackFine tags₁
    fine_left ok bt bf bd =
        rw p.leaves (rack_fine _ (left_fine tags ok number frame (take k draws) answer bt bf (bytes_part 0 k draws bd)))

    -- what put_told asks, of the rack as it was
    pub unchanged_left : RackFine tags → (old : List ℕ) → old ≡ tags → Unchanged number (signal_of number frame).label old tags₁
    unchanged_left ok old q = rw (q, p.leaves) (record { calm = calm; only = only })
      where
        behind : ℕ → List ℕ
        behind m = (event_of tags m frame (take k draws) answer).rack

        calm : number ≡ 3 → calm_call (signal_of number frame).label.call ≡ true → changes_text tags (behind number) ≡ []
        calm e h = rw e (calm_changes tags ok frame (take k draws) (rw e at h) answer)

        only : number ≡ 3 → Only (one_call (signal_of number frame).label.call) (signal_of number frame).label.uid tags (behind number)
        only e = rw e (only_owner tags ok frame (take k draws) answer)

    module _ (n : ℕ) (fine : RackFine tags₁) {out out₁ : Lent} where
      pub played_quietly : out₁ ≡ laid out (quiet_text n number report answer₁) → Played true n number frame draws tags out tags₁ out₁
      unfolding event_text
      played_quietly g = record { rack = is_left.racks; fine = fine; text = g ∙ ap (laid out) (quiet_alike n number is_left) }

      pub played_told : {old : List ℕ} → old ≡ tags → out₁ ≡ laid out (told_text n number frame (take k draws) old (left report tags₁ answer₁))
          → Played false n number frame draws tags out tags₁ out₁
      unfolding event_text
      played_told {old} q g =
          record {
            rack = is_left.racks;
            fine = fine;
            text =
                g
                ∙ ap₂ (λ (ds r₀ : List ℕ). laid out (told_text n number frame ds r₀ (left report tags₁ answer₁))) lent q
                ∙ ap (laid out) (told_alike n number is_left frame (draws_of tags draws) tags);
          }
