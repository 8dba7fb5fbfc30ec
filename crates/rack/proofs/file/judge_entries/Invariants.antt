-- Nothing below i has offended, and the body of entry i must start at `at`.
-- Assumes nothing.
use Rattle.std.proofs.Common.{◌≡◌, ◌≤◌}
use Rattle.frame.specs.Judge.{fine, first_of}
use Rattle.rack.specs.File.{start_of, entry_verdict}
use Rattle.rack.proofs.file.judge_entries.Given as goal

abbrev pub invariant-loop-i : goal.invariant-loop-i
invariant-loop-i l = record { start : l.at ≡ start_of l.rack l.i; small : l.at ≤ 65536; none : first_of l.i (entry_verdict l.rack) ≡ fine }
