-- Every place that is told lies in the frame. Assumes nothing.
use Rattle.std.proofs.Common.{arith}
use Rattle.answer.specs.Answer.{Inside}
use Rattle.tell.specs.Meanings.{meant_text}
use Rattle.tell.proofs.meaning.put_meant.Goals as goal

pub invariant_of-blocks : goal.invariant_of-blocks
unfolding Inside
invariant_of-blocks c = let h = rw c.in-Blocks.is at c.requires in record { inside = omega (arith, h) }

pub invariant_of-blocks-in-LocksAndBlocks : goal.invariant_of-blocks-in-LocksAndBlocks
unfolding Inside
invariant_of-blocks-in-LocksAndBlocks c = let h = rw c.in-LocksAndBlocks.is at c.requires in record { inside = omega (arith, h) }

pub invariant_of-locks : goal.invariant_of-locks
unfolding Inside
invariant_of-locks c = let h = rw c.in-Locks.is at c.requires in record { inside = omega (arith, h) }

pub returns-in-Refused : goal.returns-in-Refused
unfolding meant_text
returns-in-Refused c = rw c.in-Refused.is c.put.ensures
