-- A block that does not show. Assumes nothing.
use Rattle.tell.proofs.BlockPlaces.{shown_not}
use Rattle.tell.proofs.several.are_printable.Goals as goal

pub returns-then-not-is_printable : goal.returns-then-not-is_printable
returns-then-not-is_printable g c =
    let b = c.args.blocks.now in
    shown_not b.place b.long b.count b.frame.now c.loop-i-test.true g.row.GAP _ _ c.piece.ensures c.is_printable.ensures c.if-not-is_printable.true
