-- A ladder of tests on numbers, and then the check sum: `decode_right`, `decode_wrong`.
-- Assumes nothing.
use Rattle.request.specs.Label.{decode}
use mathlib.Core.Path.{sym, ◌∙◌}
use borrow.Author.Rules.{rules}
use Rattle.frame.proofs.Tests.{tests}
use Rattle.request.proofs.LabelCases.{decode_right, decode_wrong}
use Rattle.request.proofs.label.decode_frame.Goals as goal

pub nobody-requires : goal.nobody-requires
unfolding decode
nobody-requires c =
    search rules

pub returns-then-f-lt4 : goal.returns-then-f-lt4
unfolding decode
returns-then-f-lt4 c =
    search tests

pub bounds-f-0 : goal.bounds-f-0
unfolding decode
bounds-f-0 c =
    search rules

pub nobody-requires-then-flags-eq1 : goal.nobody-requires-then-flags-eq1
unfolding decode
nobody-requires-then-flags-eq1 c =
    search rules

pub returns-then-flags-eq1 : goal.returns-then-flags-eq1
unfolding decode
returns-then-flags-eq1 c =
    search tests

pub nobody-requires-then-flags-eq1-2 : goal.nobody-requires-then-flags-eq1-2
unfolding decode
nobody-requires-then-flags-eq1-2 c =
    search rules

pub returns-then-flags-eq1-2 : goal.returns-then-flags-eq1-2
unfolding decode
returns-then-flags-eq1-2 c =
    search tests

pub is_right-requires : goal.is_right-requires
unfolding decode
is_right-requires c =
    search rules

pub right_frame-requires : goal.right_frame-requires
unfolding decode
right_frame-requires c =
    search rules

pub returns-then-is_right : goal.returns-then-is_right
unfolding decode
returns-then-is_right c =
    c.right_frame.ensures
    ∙ sym
    (decode_right c.args.f.now c.if-f-lt4.false c.if-flags-eq1.false c.if-flags-eq1-2.false
    (sym c.is_right.ensures ∙ c.if-is_right.true))

pub nobody-requires-2 : goal.nobody-requires-2
unfolding decode
nobody-requires-2 c =
    search rules

pub returns : goal.returns
unfolding decode
returns c =
    c.nobody-2.ensures
    ∙ sym
    (decode_wrong c.args.f.now c.if-f-lt4.false c.if-flags-eq1.false c.if-flags-eq1-2.false
    (sym c.is_right.ensures ∙ c.if-is_right.false))
