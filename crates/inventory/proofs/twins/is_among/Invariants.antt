-- At the loop's head the UID is none of the first i.
use Rattle.inventory.proofs.NumbersRepeated.{Seeking}
use Rattle.inventory.proofs.twins.is_among.Given as goal

abbrev pub invariant-loop-i : goal.invariant-loop-i
invariant-loop-i l = Seeking l.u l.us l.i
