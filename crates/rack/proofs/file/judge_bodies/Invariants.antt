-- Nothing below i has offended.
-- Assumes nothing.
use Rattle.std.proofs.Common.{◌≡◌}
use Rattle.frame.specs.Judge.{fine, first_of}
use Rattle.rack.specs.File.{body_verdict}
use Rattle.rack.proofs.file.judge_bodies.Given as goal

abbrev pub invariant-loop-i : goal.invariant-loop-i
invariant-loop-i l = first_of l.i (body_verdict l.rack) ≡ fine
