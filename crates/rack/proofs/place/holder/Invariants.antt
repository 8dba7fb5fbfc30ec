-- The walk along the entries. Assumes nothing.
use Rattle.rack.proofs.PlaceHeld.{Walking}
use Rattle.rack.proofs.place.holder.Given as goal

abbrev pub invariant-loop-i : goal.invariant-loop-i
invariant-loop-i l = Walking l.rack l.place l.n l.i l.at
