-- A ladder of tests on numbers, and then the check sum. Assumes nothing.
use Rattle.frame.proofs.Tests.{tests}
use Rattle.request.specs.Why.{why_of}
use Rattle.request.proofs.WhyNobody.{why_wrong, why_framed}
use borrow.Author.Rules.{rules}
use Rattle.request.proofs.why.why_nobody.Goals as goal

pub returns-then-f-lt4 : goal.returns-then-f-lt4
unfolding why_of
returns-then-f-lt4 c =
    search tests

pub bounds-f-0 : goal.bounds-f-0
unfolding why_of
bounds-f-0 c =
    search rules

pub returns-then-flags-eq1 : goal.returns-then-flags-eq1
unfolding why_of
returns-then-flags-eq1 c =
    search tests

pub returns-then-flags-eq1-2 : goal.returns-then-flags-eq1-2
unfolding why_of
returns-then-flags-eq1-2 c =
    search tests

pub is_right-requires : goal.is_right-requires
unfolding why_of
is_right-requires c =
    search rules

pub decode_frame-request-requires : goal.decode_frame-request-requires
unfolding why_of
decode_frame-request-requires c =
    search rules

pub is_nobody-requires : goal.is_nobody-requires
unfolding why_of
is_nobody-requires c =
    search rules

pub why_right-requires : goal.why_right-requires
unfolding why_of
why_right-requires c =
    search rules

pub returns-then-is_right : goal.returns-then-is_right
unfolding why_of
returns-then-is_right c =
    why_framed _ c.if-f-lt4.false c.if-flags-eq1.false c.if-flags-eq1-2.false c.is_right.ensures
    c.if-is_right.true c.decode_frame-request.ensures c.is_nobody.ensures c.why_right.ensures

pub returns : goal.returns
unfolding why_of
returns c =
    why_wrong _ c.if-f-lt4.false c.if-flags-eq1.false c.if-flags-eq1-2.false c.is_right.ensures c.if-is_right.false
