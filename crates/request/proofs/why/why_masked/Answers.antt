-- Each way out is a case of `why_masked`. Assumes nothing.
use Rattle.request.proofs.WhyNobody.{mask_long, mask_misfit, mask_fits}
use Rattle.request.proofs.why.why_masked.Goals as goal

pub returns-then-longest-m : goal.returns-then-longest-m
returns-then-longest-m c =
    mask_long _ _ _ c.most_bits-longest.ensures.0 c.if-longest-m.true

pub returns-then-f-at : goal.returns-then-f-at
returns-then-f-at c =
    mask_misfit _ _ _ c.most_bits-longest.ensures.0 c.if-longest-m.false c.if-f-at.true

pub returns : goal.returns
returns c =
    mask_fits _ _ _ c.most_bits-longest.ensures.0 c.if-longest-m.false c.if-f-at.false
