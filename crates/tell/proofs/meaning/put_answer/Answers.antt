-- Every place that is told lies in the frame. Assumes nothing.
use Rattle.answer.proofs.AnswerInside.{told_inside}
use Rattle.tell.specs.Commands.{reading_for}
use Rattle.tell.proofs.meaning.put_answer.Goals as goal

pub put_meaning-requires : goal.put_meaning-requires
unfolding reading_for
put_meaning-requires c = rw c.reading_of-reading.ensures (told_inside _ _ _ _)
