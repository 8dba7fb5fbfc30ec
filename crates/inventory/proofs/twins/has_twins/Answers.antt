use Rattle.inventory.proofs.NumbersRepeated.{comparing_found, comparing_more, comparing_done}
use Rattle.inventory.proofs.twins.has_twins.Goals as goal

pub returns-then-is_among : goal.returns-then-is_among
returns-then-is_among c = comparing_found c.loop-i.invariant c.loop-i-test.true c.is_among.ensures c.if-is_among.true

pub loop-i-preserved : goal.loop-i-preserved
loop-i-preserved c = comparing_more c.loop-i.invariant c.loop-i-test.true c.is_among.ensures c.if-is_among.false

pub returns : goal.returns
returns c = comparing_done c.loop-i.invariant c.loop-i-test.false
