-- Each way out is a case of `masked`; the bytes that the code counts are those that the mask takes.
-- Assumes nothing.
use mathlib.Core.Path.{sym, ◌∙◌}
use borrow.Author.Rules.{rules}
use Rattle.frame.specs.Ending.{bytes_for}
use Rattle.request.proofs.LabelCases.{masked_over, masked_misfit, masked_fits}
use Rattle.request.proofs.label.masked_call.Goals as goal

pub returns-then-longest-m : goal.returns-then-longest-m
returns-then-longest-m c =
    let a = c.args in
    c.nobody.ensures ∙ sym (masked_over a.family a.sixteen a.at a.f.now c.most_bits-longest.ensures.0 c.if-longest-m.true)

pub returns-then-f-at : goal.returns-then-f-at
returns-then-f-at c =
    let a = c.args in
    c.nobody-then-f-at.ensures
    ∙ sym (masked_misfit a.family a.sixteen a.at a.f.now c.most_bits-longest.ensures.0 c.if-longest-m.false c.if-f-at.true)

pub mask_at-mask-requires : goal.mask_at-mask-requires
unfolding bytes_for
mask_at-mask-requires c = search rules

pub returns : goal.returns
returns c =
    let a = c.args in
    c.bare_call.ensures
    ∙ sym
    (masked_fits a.family a.sixteen a.at a.f.now c.most_bits-longest.ensures.0 c.if-longest-m.false c.if-f-at.false
    c.mask_at-mask.ensures.0)
