-- A ladder of tests on numbers, with what each call ensures.
-- Assumes nothing.
use Rattle.request.specs.Label.{inventory}
use borrow.Author.Rules.{rules}
use Rattle.frame.proofs.Tests.{tests}
use Rattle.request.proofs.label.inventory_frame.Goals as goal

pub bounds-f-0 : goal.bounds-f-0
unfolding inventory
bounds-f-0 c =
    search rules

pub bounds-f-1 : goal.bounds-f-1
unfolding inventory
bounds-f-1 c =
    search rules

pub nobody-requires : goal.nobody-requires
unfolding inventory
nobody-requires c =
    search rules

pub returns-then-f-ne1 : goal.returns-then-f-ne1
unfolding inventory
returns-then-f-ne1 c =
    search tests

pub nobody-requires-then-flags-eq1 : goal.nobody-requires-then-flags-eq1
unfolding inventory
nobody-requires-then-flags-eq1 c =
    search rules

pub returns-then-flags-eq1 : goal.returns-then-flags-eq1
unfolding inventory
returns-then-flags-eq1 c =
    search tests

pub bounds-f-2 : goal.bounds-f-2
unfolding inventory
bounds-f-2 c =
    search rules

pub masked_call-requires : goal.masked_call-requires
unfolding inventory
masked_call-requires c =
    search rules

pub returns-then-flags-eq1-2 : goal.returns-then-flags-eq1-2
unfolding inventory
returns-then-flags-eq1-2 c =
    search tests

pub masked_call-requires-2 : goal.masked_call-requires-2
unfolding inventory
masked_call-requires-2 c =
    search rules

pub returns : goal.returns
unfolding inventory
returns c =
    search tests
