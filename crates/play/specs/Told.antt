-- All that is said of one event. Assumes nothing.
use Rattle.std.specs.Prelude.{◌≡◌, ℕ, Bool, List, [], ◌++◌, length, take, replicate, ◌==◌, slice_index, if◌then◌else◌}
use Rattle.frame.specs.Number.{part}
use Rattle.print.specs.Line.{Lent, laid}
use Rattle.request.specs.Signal.{signal_of}
use Rattle.rack.specs.Facts.{RackFine}
use Rattle.rack.specs.Tag.{aired}
use Rattle.event.specs.declared.call.Report.{Report}
use Rattle.event.specs.Event.{Outcome, least, event_of}
use Rattle.tell.specs.Lines.{front_text, line_text, quiet_text}
use Rattle.tell.specs.Meanings.{answer_text}
use Rattle.trace.specs.Changes.{changes_text}
use Rattle.trace.specs.Owners.{owners_text}
use Rattle.trace.specs.Words.{why_text}
use Rattle.script.specs.Lines.{draws_for}

-- ---- what an event leaves

-- as many draws as the rack has tags
abbrev pub draws_of : List ℕ → List ℕ → List ℕ
draws_of tags draws = take (draws_for (slice_index tags 1) (length draws)) draws

-- its report, the rack and the answer, in a buffer of zeros
unfoldable pub outcome_of : List ℕ → ℕ → List ℕ → List ℕ → Outcome
outcome_of tags number frame draws = event_of tags number frame (draws_of tags draws) (replicate least 0)

-- the parts of an outcome, as a call comes back with them
abbrev pub left : Report → List ℕ → List ℕ → Outcome
left report rack out = record { report = report; rack = rack; out = out }

-- ---- what is said of it, from rack `old` on

-- beside its reply: what an answer that was alone means, why nobody answered, or who did
unfoldable pub beside_reply : ℕ → List ℕ → List ℕ → List ℕ → Outcome → List ℕ
beside_reply number frame draws old o =
    if o.report.answered == 1 then answer_text number (signal_of number frame) (part 0 o.report.length o.out)
    else if o.report.answered == 0 then why_text number frame (signal_of number frame) o.rack
    else owners_text (aired number frame) draws old

-- behind it: what a frame changed. Field on and off change more than anybody wants to read
unfoldable pub behind_reply : ℕ → List ℕ → List ℕ → List ℕ
behind_reply number old new = if number == 3 then changes_text old new else if number == 5 then changes_text old new else []

-- more than any meaning has
abbrev pub meaning_room : ℕ
meaning_room = 10240

unfoldable pub told_text : ℕ → ℕ → List ℕ → List ℕ → List ℕ → Outcome → List ℕ
told_text n number frame draws old o =
    line_text (front_text n number (signal_of number frame) o.report o.out) (take meaning_room (beside_reply number frame draws old o))
    ++ behind_reply number old o.rack

-- line n plays event `number`: quietly, the reply alone
unfoldable pub event_text : Bool → ℕ → ℕ → List ℕ → List ℕ → List ℕ → List ℕ
event_text quiet n number frame draws tags =
    let o = outcome_of tags number frame draws in
    if quiet then quiet_text n number o.report o.out
    else told_text n number frame (draws_of tags draws) tags o

-- what the call that plays it promises: the rack that it leaves, and the text, laid behind what stands in the line
pub record Played (quiet : Bool) (n number : ℕ) (frame draws tags : List ℕ) (out : Lent) (tags₁ : List ℕ) (out₁ : Lent) : Type 0 where
  pub rack : tags₁ ≡ (outcome_of tags number frame draws).rack
  pub fine : RackFine tags₁
  pub text : out₁ ≡ laid out (event_text quiet n number frame draws tags)
