-- At the loop's head the first i pieces begin with a lock byte.
-- Assumes nothing.
use mathlib.Core.Path.{◌≡◌}
use mathlib.Core.Bool.{true}
use Rattle.frame.specs.Choose.{all_of}
use Rattle.answer.proofs.AnswerPieces.{lock_at}
use Rattle.answer.proofs.reading.are_locks.Given as goal

abbrev pub invariant-loop-i : goal.invariant-loop-i
invariant-loop-i l = all_of l.i (lock_at l.each l.c) ≡ true
