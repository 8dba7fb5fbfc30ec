-- The block is within its body. Assumes nothing.
use Rattle.std.proofs.Common.{arith}
use Rattle.label_body.proofs.BodyRoom.{block_inside}
use Rattle.trace.proofs.labels.put_block_content.Goals as goal

pub same_bytes-requires : goal.same_bytes-requires
same_bytes-requires c =
    let b = c.args.c.now in
    let i = block_inside _ _ _ c.place-p.ensures b.sized c.requires in
    (omega (arith, i, b.whole), i)

pub overflow_add-p : goal.overflow_add-p
overflow_add-p c = omega (arith, block_inside _ _ _ c.place-p.ensures c.args.c.now.sized c.requires)

pub slice_bounds-put_content-end : goal.slice_bounds-put_content-end
slice_bounds-put_content-end c = block_inside _ _ _ c.place-p.ensures c.args.c.now.sized c.requires
