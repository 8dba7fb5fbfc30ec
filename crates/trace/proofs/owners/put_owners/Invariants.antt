-- The tags before the one reached are told. Assumes nothing.
use Rattle.print.specs.Seen.{seen}
use Rattle.rack.specs.Tag.{carrying}
use Rattle.trace.proofs.OwnersTold.{Owning}
use Rattle.trace.proofs.owners.put_owners.Given as goal

abbrev pub invariant-loop-i : goal.invariant-loop-i
invariant-loop-i l = Owning (carrying l.signal l.bytes) l.draws l.rack (seen l.initial.line) (seen l.line) l.i l.more
