-- The buffer keeps its length. Assumes nothing.
use Rattle.std.proofs.Common.{length, ◌≡◌}
use Rattle.text.proofs.lines.pass.Given as goal

abbrev pub invariant-loop : goal.invariant-loop
invariant-loop g l = length l.buf ≡ length l.initial.buf
