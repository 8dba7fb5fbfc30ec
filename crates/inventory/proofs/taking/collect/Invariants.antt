-- At the loop's head the UIDs of the first i tags stand at the front.
use Rattle.inventory.proofs.NumbersGathered.{Gathering}
use Rattle.inventory.proofs.taking.collect.Given as goal

abbrev pub invariant-loop-i : goal.invariant-loop-i
invariant-loop-i l = Gathering l.family l.rack l.initial.us l.us l.n l.i
