-- `Running`: i tags have taken their steps, the next body starts at `at`, and of the answers so far their number is kept and the one that is alone.
-- Assumes nothing.
use Rattle.rack.specs.Tag.{carrying}
use Rattle.event.proofs.Pass.{Running}
use Rattle.event.proofs.call.play.Given as goal

abbrev pub invariant-loop-i : goal.invariant-loop-i
invariant-loop-i l = Running l.initial.rack (carrying l.signal l.bytes) l.draws l.rack l.i l.answered l.alone l.at
