use Rattle.trace.proofs.QuestionTags.{seeking_on}
use Rattle.trace.proofs.question.lowest_slot.Goals as goal

pub loop-s-preserved : goal.loop-s-preserved
loop-s-preserved c = seeking_on c.loop-s.invariant c.loop-s-test.true c.any.ensures c.if-any.false
