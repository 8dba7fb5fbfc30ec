-- The lines of the tags before the one reached are laid; one that may have none has none. Assumes nothing.
use Rattle.std.proofs.Common.{◌≡◌}
use Rattle.frame.specs.Choose.{gather}
use Rattle.print.specs.Line.{laid}
use Rattle.print.specs.Seen.{seen}
use Rattle.rack.specs.File.{kind_at}
use Rattle.rack.specs.Facts.{body_of}
use Rattle.trace.specs.Changes.{tag_line}
use Rattle.trace.proofs.changes.put_lines.Given as goal

abbrev pub invariant-loop-i : goal.invariant-loop-i
invariant-loop-i l = seen l.line ≡ laid (seen l.initial.line) (gather l.i (λ j. tag_line (kind_at l.new j) (body_of l.old j) (body_of l.new j)))
