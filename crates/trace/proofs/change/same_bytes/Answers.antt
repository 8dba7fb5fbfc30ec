use Rattle.trace.proofs.ChangeLaid.{matching_none, matching_not, matching_on, matching_done}
use Rattle.trace.proofs.change.same_bytes.Goals as goal
use Rattle.trace.proofs.change.same_bytes.Goals.{then-a-at, else-a-at}

pub loop-k-preserved : goal.loop-k-preserved
loop-k-preserved c =
    let m = c.loop-k.invariant in
    let h = c.loop-k-test.true in
    elim c.if-a-at.branch [
      | then-a-at w ↦ rw w.same-is (matching_not m h w.if-a-at.true)
      | else-a-at w ↦ rw w.same-is (matching_on m h w.if-a-at.false)
    ]

pub loop-k-init : goal.loop-k-init
loop-k-init c =
    matching_none _ _ _ _

pub returns : goal.returns
returns c =
    matching_done c.loop-k.invariant c.loop-k-test.false
