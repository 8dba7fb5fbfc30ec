-- At the loop's head none of the first i is one of those behind it.
use Rattle.inventory.proofs.NumbersRepeated.{Comparing}
use Rattle.inventory.proofs.twins.has_twins.Given as goal

abbrev pub invariant-loop-i : goal.invariant-loop-i
invariant-loop-i l = Comparing l.us l.i
