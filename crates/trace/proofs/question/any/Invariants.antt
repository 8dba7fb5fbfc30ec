-- No tag before the one reached fits. Assumes nothing.
use Rattle.trace.proofs.QuestionTags.{Asking}
use Rattle.rack.specs.File.{count_of}
use Rattle.trace.proofs.question.any.Given as goal

abbrev pub invariant-loop-i : goal.invariant-loop-i
invariant-loop-i l = Asking l.ask l.rack (count_of l.rack) l.i
