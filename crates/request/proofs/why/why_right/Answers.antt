-- A ladder of tests on numbers, with what each call ensures. Assumes nothing.
use Rattle.frame.proofs.Tests.{tests}
use Rattle.request.specs.Why.{why_right}
use Rattle.request.proofs.why.why_right.Goals as goal

pub returns-then-flags-eq1 : goal.returns-then-flags-eq1
unfolding why_right
returns-then-flags-eq1 c =
    search tests

pub returns-then-flags-eq1-3 : goal.returns-then-flags-eq1-3
unfolding why_right
returns-then-flags-eq1-3 c =
    search tests

pub returns-then-f-lt12 : goal.returns-then-f-lt12
unfolding why_right
returns-then-f-lt12 c =
    search tests

pub returns-then-flags-eq1-2 : goal.returns-then-flags-eq1-2
unfolding why_right
returns-then-flags-eq1-2 c =
    search tests

pub returns : goal.returns
unfolding why_right
returns c =
    search tests
