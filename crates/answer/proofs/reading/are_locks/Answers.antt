-- One piece more begins with a lock byte, or the first that does not ends it.
-- Assumes nothing.
use mathlib.Core.Path.{sym}
use native.Mathlib.Omega.{arith}
use borrow.Author.Tests.{le-leb, lt-leb}
use Rattle.frame.proofs.AllOf.{all_none, all_more, all_fails}
use Rattle.answer.proofs.AnswerPieces.{lock_at}
use Rattle.answer.proofs.reading.are_locks.Goals as goal

pub loop-i-init : goal.loop-i-init
loop-i-init c = all_none _

pub returns-then-c-i-gt1 : goal.returns-then-c-i-gt1
returns-then-c-i-gt1 c = sym (all_fails _ (lock_at _ c.args.c.now) c.loop-i.i (omega arith) (lt-leb _ 1 c.if-c-i-gt1.true))

pub loop-i-preserved : goal.loop-i-preserved
loop-i-preserved c = all_more _ (lock_at _ c.args.c.now) c.loop-i.invariant (le-leb _ 1 c.if-c-i-gt1.false)
