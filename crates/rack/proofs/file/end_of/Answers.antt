-- The last entry says where the last body ends.
-- Assumes nothing.
use Rattle.std.proofs.Common.{arith}
use Rattle.rack.proofs.FileJudged.{last_end, empty_end}
use Rattle.rack.proofs.file.end_of.Goals as goal

pub returns-then-n-eq0 : goal.returns-then-n-eq0
returns-then-n-eq0 c = empty_end _ _ c.count-n.ensures c.if-n-eq0.true

pub returns : goal.returns
returns c =
    let l = last_end c.args.rack.now _ c.requires.entries_fine c.count-n.ensures (omega arith) in
    omega (arith, c.offset_of.ensures, c.length_of.ensures.0)
