-- No label has a slot below the one reached. Assumes nothing.
use Rattle.trace.proofs.QuestionTags.{Seeking}
use Rattle.trace.proofs.question.lowest_slot.Given as goal

abbrev pub invariant-loop-s : goal.invariant-loop-s
invariant-loop-s l = Seeking l.rack l.s
