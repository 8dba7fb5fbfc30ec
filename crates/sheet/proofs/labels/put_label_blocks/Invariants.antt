-- The lines of the blocks so far are laid. Assumes nothing.
use Rattle.std.proofs.Common.{◌≡◌}
use Rattle.frame.specs.Choose.{gather}
use Rattle.print.specs.Line.{laid}
use Rattle.print.specs.Seen.{seen}
use Rattle.sheet.specs.Labels.{label_block}
use Rattle.sheet.proofs.labels.put_label_blocks.Given as goal

abbrev pub invariant-loop-n : goal.invariant-loop-n
invariant-loop-n l = seen l.line ≡ laid (seen l.initial.line) (gather l.n (label_block l.body))
