-- The bytes of a line are within the buffer that they were read to. Assumes nothing.
use mathlib.Core.Path.{refl}
use Rattle.script.proofs.LinesInside.{frame_inside}
use Rattle.vectors.proofs.lines.play_line.Goals as goal

pub slice_bounds-play_event-end : goal.slice_bounds-play_event-end
slice_bounds-play_event-end c =
    let e = rw c.in-Ok-Play.field-0-is at c.in-Ok-Play.ensures.value in
    frame_inside _ _ _ _ _ _ _ e c.in-Ok-Play.ensures.bytes_after refl
