-- The lines of the blocks so far are laid. Assumes nothing.
use Rattle.std.proofs.Common.{◌≡◌}
use Rattle.frame.specs.Choose.{gather}
use Rattle.print.specs.Line.{laid}
use Rattle.print.specs.Seen.{seen}
use Rattle.sheet.specs.Chips.{chip_block}
use Rattle.sheet.proofs.chips.put_chip_blocks.Given as goal

abbrev pub invariant-loop-a : goal.invariant-loop-a
invariant-loop-a l = seen l.line ≡ laid (seen l.initial.line) (gather l.a (chip_block l.body))
