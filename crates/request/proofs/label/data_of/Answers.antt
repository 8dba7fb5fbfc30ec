-- Long enough for a UID: the bytes behind the block number, with a UID or without.
-- Assumes nothing.
use mathlib.Core.Path.{sym}
use Rattle.request.proofs.LabelCases.{data_one, data_open}
use Rattle.request.proofs.label.data_of.Goals as goal

pub returns-then-f-eq1 : goal.returns-then-f-eq1
returns-then-f-eq1 c =
    sym (data_one c.args.f.now c.if-f-eq1.true)

pub returns : goal.returns
returns c =
    sym (data_open c.args.f.now c.if-f-eq1.false)
