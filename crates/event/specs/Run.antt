-- Document 01, "Events": events one after the other, each on the rack that the one before it left. Assumes nothing.
use Rattle.std.specs.Prelude.{List, [], ◌∷◌, ℕ}
use Rattle.frame.specs.Number.{Bytes}
use Rattle.event.specs.Event.{event_of}

-- what a call of event hands over beside the rack
pub record Happening : Type 0 where
  pub number : ℕ
  pub frame : List ℕ
  pub draws : List ℕ
  pub out : List ℕ
  pub frame_bytes : Bytes frame
  pub draw_bytes : Bytes draws

-- the rack that one leaves
abbrev pub after_event : List ℕ → Happening → List ℕ
after_event r e = (event_of r e.number e.frame e.draws e.out).rack

unfoldable pub ran : List ℕ → List Happening → List ℕ
ran r [] = r
ran r (e ∷ es) = ran (after_event r e) es
