-- No more draws than are at hand. Assumes nothing.
use Rattle.script.proofs.LinesDraws.{few_inside}
use Rattle.vectors.proofs.readers.send.Goals as goal

pub slice_bounds-play-end : goal.slice_bounds-play-end
slice_bounds-play-end c =
    few_inside _ _ _ c.draws_for-n.ensures
