-- What `copy_within` leaves. Assumes nothing.
use Rattle.std.proofs.Common.{◌∙◌}
use Rattle.text.proofs.LinesPlaces.{front_copied}
use Rattle.text.proofs.lines.to_front.Goals as goal

pub returns-clause-buf_after : goal.returns-clause-buf_after
returns-clause-buf_after c = let a = c.args in c.copy_within.ensures.after ∙ front_copied a.buf.now a.start a.end c.requires.start_le_end c.requires.end_in_bounds
