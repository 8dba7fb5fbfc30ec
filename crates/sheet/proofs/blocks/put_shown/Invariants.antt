-- The bytes so far are laid. Assumes nothing.
use Rattle.std.proofs.Common.{◌≡◌, take}
use Rattle.print.specs.Line.{laid}
use Rattle.print.specs.Seen.{seen}
use Rattle.sheet.specs.Blocks.{shown_text}
use Rattle.sheet.proofs.blocks.put_shown.Given as goal

abbrev pub invariant-loop-b : goal.invariant-loop-b
invariant-loop-b l = seen l.line ≡ laid (seen l.initial.line) (shown_text (take l.b-index l.s))
