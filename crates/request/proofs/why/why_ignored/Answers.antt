-- The length, and then by what the check sum and the decoding say. Assumes nothing.
use Rattle.frame.proofs.Tests.{tests}
use Rattle.request.specs.Why.{why_ignored}
use mathlib.Core.Path.{ap}
use mathlib.Core.Bool.{not}
use Rattle.request.proofs.WhyNobody.{chip_wrong, chip_unknown, chip_heard}
use Rattle.request.proofs.why.why_ignored.Goals as goal

pub returns-then-f-lt3 : goal.returns-then-f-lt3
unfolding why_ignored
returns-then-f-lt3 c =
    search tests

pub returns-then-not-is_right : goal.returns-then-not-is_right
unfolding why_ignored
returns-then-not-is_right c =
    chip_wrong _ c.if-f-lt3.false c.is_right.ensures (ap not c.if-not-is_right.true)

pub returns-then-is_ignored : goal.returns-then-is_ignored
unfolding why_ignored
returns-then-is_ignored c =
    chip_unknown _ c.if-f-lt3.false c.is_right.ensures (ap not c.if-not-is_right.false) c.decode_frame.ensures
    c.is_ignored.ensures c.if-is_ignored.true

pub returns : goal.returns
unfolding why_ignored
returns c =
    chip_heard _ c.if-f-lt3.false c.is_right.ensures (ap not c.if-not-is_right.false) c.decode_frame.ensures
    c.is_ignored.ensures c.if-is_ignored.false
