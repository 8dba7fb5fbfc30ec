-- The blocks before the one reached are laid. Assumes nothing.
use Rattle.std.proofs.Common.{◌≡◌}
use Rattle.frame.specs.Choose.{gather}
use Rattle.print.specs.Line.{laid}
use Rattle.print.specs.Seen.{seen}
use Rattle.trace.specs.Labels.{block_change}
use Rattle.trace.proofs.labels.put_blocks.Given as goal

abbrev pub invariant-loop-n : goal.invariant-loop-n
invariant-loop-n l = seen l.line ≡ laid (seen l.initial.line) (gather l.n (block_change l.c.before.now l.c.after.now))
