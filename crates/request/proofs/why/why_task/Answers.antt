-- A ladder of tests. Assumes nothing.
use borrow.Author.Tests.{eq-eqb, ne_eqb}
use Rattle.request.specs.Why.{why_task}
use Rattle.request.proofs.why.why_task.Goals as goal

pub returns-then-not-nobody : goal.returns-then-not-nobody
unfolding why_task
returns-then-not-nobody c =
    rw c.if-not-nobody.true

pub returns-then-c-eq1 : goal.returns-then-c-eq1
unfolding why_task
returns-then-c-eq1 c =
    rw (c.if-not-nobody.false, eq-eqb _ _ c.if-c-eq1.true)

pub returns-then-address : goal.returns-then-address
unfolding why_task
returns-then-address c =
    rw (c.if-not-nobody.false, ne_eqb _ _ c.if-c-eq1.false, c.if-address.true)

pub returns : goal.returns
unfolding why_task
returns c =
    rw (c.if-not-nobody.false, ne_eqb _ _ c.if-c-eq1.false, c.if-address.false)
