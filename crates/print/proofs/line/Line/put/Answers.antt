-- The text goes behind what was laid: as much as has room, or all. Assumes nothing.
use Rattle.std.proofs.Common.{refl, arith}
use Rattle.print.specs.Seen.{seen}
use Rattle.print.proofs.Lines.{laid_put}
use Rattle.print.proofs.line.Line.put.Goals as goal

pub returns-then-room-s : goal.returns-then-room-s
unfolding seen
returns-then-room-s c =
    laid_put _ _ _ c.args.self.now.inside refl (omega arith) c.put_bytes-self.ensures

pub returns-else-room-s : goal.returns-else-room-s
unfolding seen
returns-else-room-s c =
    laid_put _ _ _ c.args.self.now.inside refl (omega arith) c.put_bytes-self-else-room-s.ensures
