use Rattle.inventory.proofs.NumbersRepeated.{seeking_none, seeking_found, seeking_more, seeking_done}
use Rattle.inventory.proofs.twins.is_among.Goals as goal

pub loop-i-init : goal.loop-i-init
loop-i-init c = seeking_none _ _

pub returns-then-us-i : goal.returns-then-us-i
returns-then-us-i c = seeking_found c.loop-i.invariant c.loop-i-test.true c.if-us-i.true

pub loop-i-preserved : goal.loop-i-preserved
loop-i-preserved c = seeking_more c.loop-i.invariant c.loop-i-test.true c.if-us-i.false

pub returns : goal.returns
returns c = seeking_done c.loop-i.invariant c.loop-i-test.false
