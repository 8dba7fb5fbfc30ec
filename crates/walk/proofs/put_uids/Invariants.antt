-- The UIDs so far are laid. Assumes nothing.
use Rattle.std.proofs.Common.{◌≡◌}
use Rattle.print.specs.Line.{laid}
use Rattle.print.specs.Seen.{seen}
use Rattle.walk.specs.WalkText.{uid_lines}
use Rattle.walk.proofs.put_uids.Given as goal

abbrev pub invariant-loop-i : goal.invariant-loop-i
invariant-loop-i l = seen l.line ≡ laid (seen l.initial.line) (uid_lines l.i l.list)
