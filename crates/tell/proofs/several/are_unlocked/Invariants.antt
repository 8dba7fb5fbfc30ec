-- The first i blocks are not locked. Assumes nothing.
use Rattle.std.proofs.Common.{◌≡◌, true, ℕ, ◌==◌}
use Rattle.frame.specs.Choose.{all_of}
use Rattle.tell.specs.Meanings.{lock_at}
use Rattle.tell.proofs.several.are_unlocked.Given as goal

abbrev pub invariant-loop-i : goal.invariant-loop-i
invariant-loop-i l = all_of l.i (λ (i : ℕ). lock_at l.blocks.place l.blocks.long l.blocks.frame.now i == 0) ≡ true
