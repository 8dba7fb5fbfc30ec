-- The two calls of a walk, played without their frames: what the laws of a round speak of. Assumes nothing.
use mathlib.Core.List.{List, [], ◌∷◌}
use Prim.Native.Nat.{ℕ}
use Rattle.frame.specs.Number.{part}
use Rattle.request.specs.Label.{bare}
use Rattle.request.specs.declared.signal.Signal.{Signal}
use Rattle.request.specs.declared.label.Call.{Call}
use Rattle.request.specs.declared.chip.Order.TheVariants as o
use Rattle.rack.specs.Tag.{Event, carrying}

abbrev pub signal : Call → Signal
signal call = record { label = bare call; chip = o.Ignored }

abbrev pub event : Call → Event
event call = carrying (signal call) []

-- the UID in the only answer: its bytes 2 to 9
abbrev pub uid_alone : List (List ℕ) → List ℕ
uid_alone [] = []
uid_alone (f ∷ []) = part 2 8 f
uid_alone (f ∷ g ∷ fs) = []
