use Rattle.std.proofs.Common.{rules, arith, ◌≡◌, ◌<◌}
use Rattle.rack.specs.declared.tag.Kind.TheVariants.{Label}
use Rattle.rack.specs.File.{count_of}
use Rattle.inventory.proofs.WalkEvents.{Fine}
use Rattle.inventory.proofs.WalkClears.{clearing_none, clearing_inside, clearing_long, clearing_label, clearing_other, clearing_done}
use Rattle.inventory.proofs.clear.clear_rack.Goals as goal
use Rattle.inventory.proofs.clear.clear_rack.Goals.{then-eq, else-eq}

pub loop-i-init : goal.loop-i-init
loop-i-init c = clearing_none _ c.count-n.ensures c.entry_of-at.ensures

pub slice_bounds-clear_slot-end : goal.slice_bounds-clear_slot-end
slice_bounds-clear_slot-end c =
    let fine : Fine c.args.rack.now = record { rack = c.requires; bytes = search rules } in
    let low : c.loop-i.i < count_of c.args.rack.now = omega (arith, c.count-n.ensures, c.loop-i-test.true) in
    clearing_inside c.loop-i.invariant fine low c.kind_of.ensures c.length_of.ensures.0

pub clear_slot-requires : goal.clear_slot-requires
clear_slot-requires c =
    let fine : Fine c.args.rack.now = record { rack = c.requires; bytes = search rules } in
    let low : c.loop-i.i < count_of c.args.rack.now = omega (arith, c.count-n.ensures, c.loop-i-test.true) in
    clearing_long c.loop-i.invariant fine low c.kind_of.ensures c.length_of.ensures.0

pub loop-i-preserved : goal.loop-i-preserved
loop-i-preserved c =
    let fine : Fine c.args.rack.now = record { rack = c.requires; bytes = search rules } in
    let low : c.loop-i.i < count_of c.args.rack.now = omega (arith, c.count-n.ensures, c.loop-i-test.true) in
    let k = c.kind_of.ensures in
    let l = c.length_of.ensures.0 in
    elim c.if-eq.branch [
      | then-eq w ↦
          let z : c.kind_of.result ≡ Label = search rules in
          rw w.rack-is (clearing_label c.loop-i.invariant fine low k l z w.clear_slot.ensures w.clear_slot.auto.b)
      | else-eq w ↦
          let z : c.kind_of.result ≡ Label → ⊥ = search rules in
          rw w.rack-is (clearing_other c.loop-i.invariant fine low k l z)
    ]

pub returns : goal.returns
returns c =
    let fine : Fine c.args.rack.now = record { rack = c.requires; bytes = search rules } in
    clearing_done c.loop-i.invariant fine (omega (arith, c.count-n.ensures, c.loop-i-test.false))
