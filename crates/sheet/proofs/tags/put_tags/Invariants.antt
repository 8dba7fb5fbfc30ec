-- The tags so far are laid. Assumes nothing.
use Rattle.std.proofs.Common.{◌≡◌}
use Rattle.frame.specs.Choose.{gather}
use Rattle.print.specs.Line.{laid}
use Rattle.print.specs.Seen.{seen}
use Rattle.sheet.specs.Tags.{tag_at}
use Rattle.sheet.proofs.tags.put_tags.Given as goal

abbrev pub invariant-loop-i : goal.invariant-loop-i
invariant-loop-i l = seen l.line ≡ laid (seen l.initial.line) (gather l.i (tag_at l.rack))
