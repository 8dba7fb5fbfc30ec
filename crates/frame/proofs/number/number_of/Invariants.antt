-- n is the number of the bytes behind those that are left: at most seven of them while one is left, so nothing wraps.
-- Assumes nothing.
use Rattle.std.specs.Slice.Iter.{iter_rest}
use Rattle.std.specs.Iterator.Adapters.{rev_source}
use Rattle.frame.proofs.Numbers.{Behind}
use Rattle.frame.proofs.number.number_of.Given as goal

abbrev pub invariant-loop-b : goal.invariant-loop-b
invariant-loop-b l = Behind l.s (iter_rest (rev_source l.b-iterator)) l.n
