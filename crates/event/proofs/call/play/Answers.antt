use Rattle.std.proofs.Common.{arith, sym, ◌∙◌, ◌<◌}
use Rattle.rack.specs.File.{count_of}
use Rattle.event.proofs.Pass.{running_none, running_done, turn_asks, turn_first, turn_several, turn_silent}
use Rattle.event.proofs.call.play.Goals as goal
use Rattle.event.proofs.call.play.Goals.{then-speaking, then-answered-eq0, else-answered-eq0, else-speaking}

pub loop-i-init : goal.loop-i-init
loop-i-init c = running_none _ _ _ c.requires.rack_fine c.requires.draws_len c.entry_of-at.ensures

pub slice_bounds-step_tag-end : goal.slice_bounds-step_tag-end
slice_bounds-step_tag-end c =
    let below : c.loop-i.i < count_of c.args.rack.now = omega (arith, c.loop-i-test.true, c.requires.draws_len) in
    (turn_asks c.requires.rack_fine c.loop-i.invariant below c.kind_of-kind.ensures c.length_of.ensures.0).0

pub step_tag-said-requires : goal.step_tag-said-requires
step_tag-said-requires c =
    let below : c.loop-i.i < count_of c.args.rack.now = omega (arith, c.loop-i-test.true, c.requires.draws_len) in
    (turn_asks c.requires.rack_fine c.loop-i.invariant below c.kind_of-kind.ensures c.length_of.ensures.0).1

pub loop-i-preserved : goal.loop-i-preserved
loop-i-preserved c =
    let below : c.loop-i.i < count_of c.args.rack.now = omega (arith, c.loop-i-test.true, c.requires.draws_len) in
    let ok = c.requires.rack_fine in
    let i = c.loop-i.invariant in
    let k = c.kind_of-kind.ensures in
    let l = c.length_of.ensures.0 in
    let s = c.step_tag-said in
    let e = s.ensures in
    let q = sym c.speaking.ensures in
    elim c.if-speaking.branch [
      | then-speaking w ↦
          elim w.if-answered-eq0.branch [
            | then-answered-eq0 v ↦
                rw (w.answered-is, w.alone-is, w.at-is, v.alone-is)
                (turn_first ok i below k l e.value e.body_after s.auto.body (q ∙ w.if-speaking.true) v.if-answered-eq0.true)
            | else-answered-eq0 v ↦
                rw (w.answered-is, w.alone-is, w.at-is, v.alone-is)
                (turn_several ok i below k l e.value e.body_after s.auto.body (q ∙ w.if-speaking.true) v.if-answered-eq0.false)
          ]
      | else-speaking w ↦
          rw (w.answered-is, w.alone-is, w.at-is) (turn_silent ok i below k l e.value e.body_after s.auto.body (q ∙ w.if-speaking.false))
    ]

pub returns : goal.returns
returns c =
    let p = running_done c.requires.rack_fine c.loop-i.invariant (omega (arith, c.loop-i-test.false, c.requires.draws_len)) in
    record { pass_of = p.0; rack_after = p.1 }
