-- At the loop's head i blocks are laid behind 00.
-- Assumes nothing.
use Prim.Native.Nat.{◌+◌}
use Rattle.label_body.specs.Answer.{block_bytes}
use Rattle.label_body.proofs.AnswerLaid.{Laying}
use Rattle.label_body.proofs.answer.say_blocks.Given as goal

abbrev pub invariant-loop-i : goal.invariant-loop-i
invariant-loop-i l = Laying (λ j. block_bytes (l.n + j) l.lock l.b) (l.more + 1) l.initial.out l.out l.at l.i
