-- Document 01, "Events": an event as the tags hear it. Assumes nothing.
use Rattle.std.specs.Prelude.{List, ℕ}
use Rattle.request.specs.declared.signal.Signal.{Signal}
use Rattle.request.specs.Label as labels
use Rattle.request.specs.Chip as chips

-- labels ignore event 5, chips ignore 3 and 4
abbrev pub signal_of : ℕ → List ℕ → Signal
signal_of number f = record { label = labels.heard number f; chip = chips.heard number f }
