-- Three ways out: too little room, no such request, and the plan laid.
-- Assumes nothing.
use borrow.Author.Rules.{rules}
use Rattle.reader.proofs.RequestWays.{short_way, wrong_way, lay_may, right_way}
use mathlib.Core.Path.{ap}
use mathlib.Core.Bool.{not}
use Rattle.reader.proofs.writer.try_write.Goals as goal

pub returns-then-out-lt-LEAST : goal.returns-then-out-lt-LEAST
returns-then-out-lt-LEAST c =
    short_way _ _ _ _ c.if-out-lt-LEAST.true

pub returns-then-not-is_valid : goal.returns-then-not-is_valid
returns-then-not-is_valid c =
    wrong_way _ _ _ _ _ c.if-out-lt-LEAST.false c.is_valid.ensures (ap not c.if-not-is_valid.true)

pub lay-requires : goal.lay-requires
lay-requires c =
    lay_may _ _ _ (ap not c.if-not-is_valid.false) _ _ c.if-out-lt-LEAST.false c.is_valid.ensures c.plan_for.ensures

pub returns : goal.returns
returns c =
    right_way _ _ _ (ap not c.if-not-is_valid.false) c.args.uid _ _ _ _ c.if-out-lt-LEAST.false (search (rules, c.well_formed)) c.is_valid.ensures
    c.plan_for.ensures c.lay.ensures
