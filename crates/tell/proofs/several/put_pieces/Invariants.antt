-- The first i blocks are laid. Assumes nothing.
use Rattle.std.proofs.Common.{◌≡◌}
use Rattle.frame.specs.Choose.{gather}
use Rattle.print.specs.Line.{laid}
use Rattle.print.specs.Seen.{seen}
use Rattle.tell.specs.Meanings.{piece_at}
use Rattle.tell.proofs.several.put_pieces.Given as goal

abbrev pub invariant-loop-i : goal.invariant-loop-i
invariant-loop-i g l = seen l.line ≡ laid (seen l.initial.line) (gather l.i (piece_at l.blocks.place g.row.GAP l.blocks.long l.blocks.frame.now))
