-- Whether the bytes before the place reached are the same is told. Assumes nothing.
use Rattle.trace.proofs.ChangeLaid.{Matching}
use Rattle.trace.proofs.change.same_bytes.Given as goal

abbrev pub invariant-loop-k : goal.invariant-loop-k
invariant-loop-k l = Matching l.a l.b l.at l.n l.k l.same
