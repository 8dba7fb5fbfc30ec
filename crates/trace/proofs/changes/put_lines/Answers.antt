-- A tag's line is laid, or it has none. Assumes nothing.
use Rattle.std.proofs.Common.{◌∙◌, sym, arith, ℕ, ◌<◌}
use Rattle.print.specs.Seen.{seen}
use Rattle.rack.specs.File.{count_of, kind_at}
use Rattle.rack.specs.Facts.{body_of}
use Rattle.trace.specs.Calm.{Only}
use Rattle.trace.specs.Changes.{tag_line}
use Rattle.trace.proofs.ChangeLaid.{gathered_on, gathered_past}
use Rattle.trace.proofs.changes.put_lines.Goals as goal
use Rattle.trace.proofs.changes.put_lines.Goals.{then-may_have_line, else-may_have_line}

pub loop-i-preserved : goal.loop-i-preserved
unfolding Only
loop-i-preserved c =
    let a = c.args in
    let there : c.loop-i.i < count_of a.new.now = omega (arith, c.count-i-end.ensures.value, c.loop-i-test.true) in
    let f = λ (j : ℕ). tag_line (kind_at a.new.now j) (body_of a.old.now j) (body_of a.new.now j) in
    elim c.if-may_have_line.branch [
      | then-may_have_line w ↦ rw w.line-is (gathered_on (seen a.line.now) f c.loop-i.i c.loop-i.invariant w.put_line_at.ensures)
      | else-may_have_line w ↦
          rw w.line-is
          (gathered_past (seen a.line.now) f c.loop-i.i c.loop-i.invariant
          (c.requires.only c.loop-i.i there (sym c.may_have_line.ensures ∙ w.if-may_have_line.false)))
    ]
