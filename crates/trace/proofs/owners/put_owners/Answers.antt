-- The tag answers, or not. Assumes nothing.
use Rattle.print.specs.Seen.{seen}
use Rattle.trace.proofs.OwnersTold.{owning_on, owning_past}
use Rattle.trace.proofs.owners.put_owners.Goals as goal
use Rattle.trace.proofs.owners.put_owners.Goals.{then-answers, else-answers}

pub loop-i-preserved : goal.loop-i-preserved
loop-i-preserved c =
    let a = c.args in
    let o = c.loop-i.invariant in
    let said = c.answers.ensures in
    let e = rw c.byte_at.ensures at said in
    elim c.if-answers.branch [
      | then-answers w ↦ rw (w.line-is, w.more-is) (owning_on (seen a.line.now) c.loop-i.i o e w.if-answers.true w.put_owner.ensures)
      | else-answers w ↦ rw (w.line-is, w.more-is) (owning_past (seen a.line.now) c.loop-i.i o e w.if-answers.false)
    ]
