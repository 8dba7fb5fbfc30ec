-- At the loop's head the first i tags are cleared, and the next body starts at the place.
use Rattle.inventory.proofs.WalkClears.{Clearing}
use Rattle.inventory.proofs.clear.clear_rack.Given as goal

abbrev pub invariant-loop-i : goal.invariant-loop-i
invariant-loop-i l = Clearing l.initial.rack l.rack l.at l.i
