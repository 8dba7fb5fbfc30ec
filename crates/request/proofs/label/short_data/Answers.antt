-- Too short for any bytes, or for those behind a UID: none; else those behind the block number.
-- Assumes nothing.
use mathlib.Core.Path.{sym}
use Rattle.request.proofs.LabelCases.{data_short, data_cut, data_open}
use Rattle.request.proofs.label.short_data.Goals as goal

pub returns-then-f-lt5 : goal.returns-then-f-lt5
returns-then-f-lt5 c =
    sym (data_short c.args.f.now c.if-f-lt5.true)

pub returns-then-f-eq1 : goal.returns-then-f-eq1
returns-then-f-eq1 c =
    sym (data_cut c.args.f.now c.requires c.if-f-eq1.true)

pub returns : goal.returns
returns c =
    sym (data_open c.args.f.now c.if-f-eq1.false)
