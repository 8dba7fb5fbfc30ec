-- The tag reached fits, or not. Assumes nothing.
use Rattle.std.proofs.Common.{refl, arith, ◌<◌}
use Rattle.rack.specs.File.{count_of}
use Rattle.trace.proofs.QuestionTags.{asking_none, asking_yes, asking_on}
use Rattle.trace.proofs.question.any.Goals as goal

pub loop-i-init : goal.loop-i-init
loop-i-init c = asking_none _ _ _

pub returns-then-tag_fits : goal.returns-then-tag_fits
returns-then-tag_fits c =
    let there : c.loop-i.i < count_of c.args.rack.now = omega (arith, c.count-i-end.ensures.value, c.loop-i-test.true) in
    asking_yes c.loop-i.invariant refl there c.kind.ensures c.body.ensures.value c.tag_fits.ensures c.if-tag_fits.true

pub loop-i-preserved : goal.loop-i-preserved
loop-i-preserved c =
    let there : c.loop-i.i < count_of c.args.rack.now = omega (arith, c.count-i-end.ensures.value, c.loop-i-test.true) in
    asking_on c.loop-i.invariant refl there c.kind.ensures c.body.ensures.value c.tag_fits.ensures c.if-tag_fits.false
