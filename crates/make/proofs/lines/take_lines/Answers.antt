use Rattle.std.proofs.Common.{arith, rules, refl}
use Rattle.std.proofs.lemmas.Result.{err_from_is_err_and}
use Rattle.make.proofs.LinesTaken.{find_on, lines_none, lines_one, lines_spent, take_none, take_one, take_stop}
use Rattle.make.proofs.lines.take_lines.Goals as goal

pub returns-then-text-at : goal.returns-then-text-at
returns-then-text-at c =
    take_none _ _ _ _ _ c.loop.invariant.1.1 (lines_none _ _ _ (omega arith) c.if-text-at.true)

pub overflow_sub-to : goal.overflow_sub-to
overflow_sub-to c = find_on _ _ c.find-to.ensures

pub returns-in_err-m : goal.returns-in_err-m
returns-in_err-m c =
    let p = err_from_is_err_and c.from_residual.result c.from_residual.ensures.1 in
    rw (p.1, p.2, ← c.in_err-m.was)
    (take_stop _ _ _ _ _ c.loop.invariant.1.1
    (lines_one _ _ _ (omega arith) c.if-text-at.false c.find-to.ensures c.line_of.ensures refl)
    c.take_next.ensures c.in_err-m.was)

pub loop-preserved : goal.loop-preserved
loop-preserved c =
    let k = lines_one _ _ _ (omega arith) c.if-text-at.false c.find-to.ensures c.line_of.ensures c.place-at.ensures in
    (search rules, (search rules, take_one _ _ _ _ _ c.loop.invariant.1.1 k c.take_next.ensures c.in_ok-m.was))

pub returns : goal.returns
returns c =
    take_none _ _ _ _ _ c.loop.invariant.1.1 (lines_spent _ _ _ (omega arith))
