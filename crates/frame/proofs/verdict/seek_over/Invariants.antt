-- Nothing below i has offended: `byte_fine` keeps it so, and `byte_bad` is the first that does.
-- Assumes nothing.
use mathlib.Core.Path.{◌≡◌}
use Rattle.frame.specs.Judge.{first_of, fine, byte_verdict}
use Rattle.frame.proofs.verdict.seek_over.Given as goal

abbrev pub invariant-loop-i : goal.invariant-loop-i
invariant-loop-i l = first_of l.i (byte_verdict l.body l.at l.most) ≡ fine
