use Rattle.std.proofs.Common.{arith, rules, refl}
use Rattle.std.proofs.lemmas.Result.{err_from_is_err_and}
use Rattle.make.specs.Tags.{fields_in}
use Rattle.make.proofs.TagsTold.{fields_spent, fields_none, fields_on, fields_wrong}
use Rattle.make.proofs.lines.fields_in.Goals as goal

pub returns-then-is_empty : goal.returns-then-is_empty
unfolding fields_in
returns-then-is_empty c =
    fields_none _ _ _ _ _ _ _ c.loop.invariant.1 (omega arith) c.word-w.ensures c.is_empty.ensures c.if-is_empty.true

pub returns-in_err-reached : goal.returns-in_err-reached
unfolding fields_in
returns-in_err-reached c =
    let p = err_from_is_err_and c.from_residual.result c.from_residual.ensures.1 in
    rw (p.1, p.2)
    (fields_wrong _ _ _ _ _ _ _ c.loop.invariant.1 (omega arith) c.word-w.ensures c.is_empty.ensures c.if-is_empty.false c.field.ensures c.in_err-reached.was)

pub loop-preserved : goal.loop-preserved
unfolding fields_in
loop-preserved c = (
  search rules,
  fields_on _ _ _ _ _ _ _ c.loop.invariant.1 (omega arith) c.word-w.ensures c.is_empty.ensures c.if-is_empty.false c.field.ensures c.in_ok-reached.was refl refl,
)

pub returns : goal.returns
unfolding fields_in
returns c =
    fields_spent _ _ _ _ _ _ _ c.loop.invariant.1 (omega arith)
