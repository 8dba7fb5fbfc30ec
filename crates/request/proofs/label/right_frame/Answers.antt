-- A ladder of tests on numbers, with what each call ensures.
-- Assumes nothing.
use Rattle.request.specs.Label.{addressing}
use borrow.Author.Rules.{rules}
use Rattle.frame.proofs.Tests.{tests}
use Rattle.request.proofs.label.right_frame.Goals as goal

pub inventory_frame-requires : goal.inventory_frame-requires
unfolding addressing
inventory_frame-requires c =
    search rules

pub returns-then-flags-eq1 : goal.returns-then-flags-eq1
unfolding addressing
returns-then-flags-eq1 c =
    search tests

pub nobody-requires : goal.nobody-requires
unfolding addressing
nobody-requires c =
    search rules

pub returns-then-flags-eq1-3 : goal.returns-then-flags-eq1-3
unfolding addressing
returns-then-flags-eq1-3 c =
    search tests

pub addressed_frame-requires : goal.addressed_frame-requires
unfolding addressing
addressed_frame-requires c =
    search rules

pub returns-then-flags-eq1-2 : goal.returns-then-flags-eq1-2
unfolding addressing
returns-then-flags-eq1-2 c =
    search tests

pub open_frame-requires : goal.open_frame-requires
unfolding addressing
open_frame-requires c =
    search rules

pub returns-then-flags-eq1-4 : goal.returns-then-flags-eq1-4
unfolding addressing
returns-then-flags-eq1-4 c =
    search tests

pub open_frame-requires-2 : goal.open_frame-requires-2
unfolding addressing
open_frame-requires-2 c =
    search rules

pub returns : goal.returns
unfolding addressing
returns c =
    search tests
