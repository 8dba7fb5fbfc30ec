-- The bytes so far are at most what they give together.
-- Assumes nothing.
use Rattle.std.specs.Prelude.{All, ◌≤◌, ℕ}
use Rattle.std.specs.Prelude.{take}
use Rattle.frame.proofs.verdict.together.Given as goal

abbrev pub invariant-loop-byte : goal.invariant-loop-byte
invariant-loop-byte l = All (λ (byte : ℕ). byte ≤ l.bits) (take l.byte-index l.s)
