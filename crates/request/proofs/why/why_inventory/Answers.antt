-- A ladder of tests on numbers, with what each call ensures. Assumes nothing.
use Rattle.frame.proofs.Tests.{tests}
use Rattle.request.specs.Why.{why_inventory}
use Rattle.request.proofs.why.why_inventory.Goals as goal

pub returns-then-f-ne1 : goal.returns-then-f-ne1
unfolding why_inventory
returns-then-f-ne1 c =
    search tests

pub returns-then-flags-eq1 : goal.returns-then-flags-eq1
unfolding why_inventory
returns-then-flags-eq1 c =
    search tests

pub returns-then-flags-eq1-2 : goal.returns-then-flags-eq1-2
unfolding why_inventory
returns-then-flags-eq1-2 c =
    search tests

pub returns : goal.returns
unfolding why_inventory
returns c =
    search tests
