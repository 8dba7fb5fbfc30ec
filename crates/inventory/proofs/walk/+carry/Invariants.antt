-- 64 less the mask length falls with each call of itself, and at 60 bits the round is the last; at the loop's head the collided slots passed are carried
-- through, and the UIDs of the other slots are left.
use Prim.Native.Nat.{◌-◌}
use lib.ListN.{length}
use Rattle.inventory.proofs.NumbersBranches.{Carried}
use Rattle.inventory.proofs.walk.+carry.Given as goal

abbrev pub decreases-carry : goal.decreases-carry
decreases-carry l = 64 - l.bits

abbrev pub invariant-loop-rest : goal.invariant-loop-rest
invariant-loop-rest l = Carried l.initial.rest l.bits l.initial.list l.initial.at 1 l.rest l.list l.at l.rounds

abbrev pub decreases-loop-rest : goal.decreases-loop-rest
decreases-loop-rest l = length l.rest
