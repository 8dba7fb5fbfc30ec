-- A block that is locked. Assumes nothing.
use Rattle.tell.proofs.BlockPlaces.{lock_not}
use Rattle.tell.proofs.several.are_unlocked.Goals as goal

pub returns-then-lock-ne0 : goal.returns-then-lock-ne0
returns-then-lock-ne0 c =
    let b = c.args.blocks.now in
    lock_not b.place b.long b.count b.frame.now c.loop-i-test.true _ c.lock.ensures c.if-lock-ne0.true
