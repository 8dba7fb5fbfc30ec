-- The block is lent, and put behind its lock or at once.
-- Assumes nothing.
use mathlib.Core.Path.{◌∙◌}
use native.Mathlib.Omega.{arith}
use lib.ListN.{length-set}
use Rattle.label_body.proofs.AnswerLaid.{locked_room, plain_room, lay_locked, lay_plain}
use Rattle.label_body.proofs.answer.lay_block.Goals as goal

pub bounds-out-at : goal.bounds-out-at
bounds-out-at c = omega (arith, locked_room _ _ c.args.at _ c.block-bytes.ensures c.if-lock.true c.requires.b_in_bounds)

pub put_bytes-requires : goal.put_bytes-requires
put_bytes-requires c = (
  simp length-set (locked_room _ _ c.args.at _ c.block-bytes.ensures c.if-lock.true c.requires.b_in_bounds),
  omega arith,
)

pub returns-then-lock : goal.returns-then-lock
returns-then-lock c = lay_locked _ _ _ _ c.block-bytes.ensures _ _ c.if-lock.true c.lock_on.ensures c.put_bytes.ensures

pub put_bytes-requires-2 : goal.put_bytes-requires-2
put_bytes-requires-2 c = (plain_room _ _ c.args.at _ c.block-bytes.ensures c.if-lock.false c.requires.b_in_bounds, omega arith)

pub returns : goal.returns
returns c = lay_plain _ _ _ _ c.block-bytes.ensures _ _ c.if-lock.false c.put_bytes-2.ensures

pub shape_of-out-then-lock : goal.shape_of-out-then-lock
shape_of-out-then-lock c =
    c.put_bytes.auto.out ∙ simp length-set
