-- None of the bytes read so far is a newline; each turn reads something behind them. Assumes nothing.
use lib.ListN.{length}
use Prim.Native.Nat.{◌-◌}
use Rattle.text.proofs.LinesBrought.{Reading}
use Rattle.text.proofs.lines.fill.Given as goal

abbrev pub invariant-loop-end : goal.invariant-loop-end
invariant-loop-end g l = Reading l.n l.initial.buf l.buf l.end

abbrev pub decreases-loop-end : goal.decreases-loop-end
decreases-loop-end g l = length l.initial.buf - l.end
