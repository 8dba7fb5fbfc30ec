-- Once the round is over (`k`), each slot is among the UIDs that are left, and what its call asks and says is of that part.
use Rattle.std.proofs.Common.{rules, arith, refl, ◌<◌, ◌≤◌, length}
use Rattle.inventory.proofs.NumbersBranches.{round_over, answers, singles_room, carried_none, last_round}
use Rattle.inventory.proofs.NumbersBranches.{carried_done, carried_some, carried_inside, carried_asks, carried_few, carried_hit, carried_miss}
use Rattle.inventory.proofs.walk.+carry.Goals as goal
use Rattle.inventory.proofs.walk.+carry.Goals.{then-group-gt1, else-group-gt1}

pub round_from-at-requires : goal.round_from-at-requires
round_from-at-requires t c =
    singles_room c.args.bits c.args.us.now c.args.cursor (length c.args.list.now) c.requires.mask c.requires.room

pub returns-then-bits-gt56 : goal.returns-then-bits-gt56
returns-then-bits-gt56 t c =
    let a = c.args in
    let r = c.round_from-at.ensures in
    let k = round_over a.bits a.us.now r.us_after a.list.now a.cursor (c.requires.room, (c.requires.few, c.requires.mask))
    (r.value, r.list_after) in
    let p = answers a.bits a.us.now r.us_after a.list.now a.cursor (c.requires.room, (c.requires.few, c.requires.mask)) (last_round k c.if-bits-gt56.true) in
    record { list = p.0; cursor = p.1.0; rounds = p.1.1 }

pub loop-rest-init : goal.loop-rest-init
loop-rest-init t c =
    let a = c.args in
    let r = c.round_from-at.ensures in
    let k = round_over a.bits a.us.now r.us_after a.list.now a.cursor (c.requires.room, (c.requires.few, c.requires.mask))
    (r.value, r.list_after) in
    carried_none k

pub split_at_mut-group-requires : goal.split_at_mut-group-requires
split_at_mut-group-requires t c =
    let a = c.args in
    let r = c.round_from-at.ensures in
    let k = round_over a.bits a.us.now r.us_after a.list.now a.cursor (c.requires.room, (c.requires.few, c.requires.mask))
    (r.value, r.list_after) in
    let more : 0 < length c.loop-rest.rest.now = search rules in
    carried_inside k c.loop-rest.invariant more c.leading-h.ensures

pub carry-went-requires : goal.carry-went-requires
carry-went-requires t c =
    let a = c.args in
    let r = c.round_from-at.ensures in
    let k = round_over a.bits a.us.now r.us_after a.list.now a.cursor (c.requires.room, (c.requires.few, c.requires.mask))
    (r.value, r.list_after) in
    let more : 0 < length c.loop-rest.rest.now = search rules in
    let p = carried_asks k c.loop-rest.invariant more c.leading-h.ensures c.split_at_mut-group.ensures.front c.split_at_mut-group.ensures.back (omega (arith, c.if-group-gt1.true)) c.if-bits-gt56.false in
    (omega (arith, c.requires.mask), p)

pub overflow_add-rounds : goal.overflow_add-rounds
overflow_add-rounds t c =
    let a = c.args in
    let r = c.round_from-at.ensures in
    let k = round_over a.bits a.us.now r.us_after a.list.now a.cursor (c.requires.room, (c.requires.few, c.requires.mask))
    (r.value, r.list_after) in
    let more : 0 < length c.loop-rest.rest.now = search rules in
    omega (arith, c.carry-went.ensures.rounds, carried_few k c.loop-rest.invariant more c.leading-h.ensures c.split_at_mut-group.ensures.front c.split_at_mut-group.ensures.back (omega (arith, c.if-group-gt1.true)))

pub loop-rest-smaller : goal.loop-rest-smaller
loop-rest-smaller t c =
    let a = c.args in
    let r = c.round_from-at.ensures in
    let k = round_over a.bits a.us.now r.us_after a.list.now a.cursor (c.requires.room, (c.requires.few, c.requires.mask))
    (r.value, r.list_after) in
    let more : 0 < length c.loop-rest.rest.now = search rules in
    omega (arith, carried_some k c.loop-rest.invariant more c.leading-h.ensures, c.split_at_mut-group.ensures.back_len)

pub loop-rest-preserved : goal.loop-rest-preserved
loop-rest-preserved t c =
    let a = c.args in
    let r = c.round_from-at.ensures in
    let k = round_over a.bits a.us.now r.us_after a.list.now a.cursor (c.requires.room, (c.requires.few, c.requires.mask))
    (r.value, r.list_after) in
    let more : 0 < length c.loop-rest.rest.now = search rules in
    let i = c.loop-rest.invariant in
    elim c.if-group-gt1.branch [
      | then-group-gt1 w ↦
          let e = w.carry-went.ensures in
          rw (w.list-is, w.at-is, w.rounds-is)
          (carried_hit k i more c.leading-h.ensures c.split_at_mut-group.ensures.front c.split_at_mut-group.ensures.back (omega (arith, w.if-group-gt1.true)) (e.list, (e.cursor, e.rounds)) refl)
      | else-group-gt1 w ↦
          rw (w.list-is, w.at-is, w.rounds-is) (carried_miss k i more c.leading-h.ensures c.split_at_mut-group.ensures.front c.split_at_mut-group.ensures.back (omega (arith, w.if-group-gt1.false)))
    ]

pub returns : goal.returns
returns t c =
    let a = c.args in
    let r = c.round_from-at.ensures in
    let k = round_over a.bits a.us.now r.us_after a.list.now a.cursor (c.requires.room, (c.requires.few, c.requires.mask))
    (r.value, r.list_after) in
    let none : length c.loop-rest.rest.now ≤ 0 = search rules in
    let p = answers a.bits a.us.now r.us_after a.list.now a.cursor (c.requires.room, (c.requires.few, c.requires.mask)) (carried_done k c.loop-rest.invariant none) in
    record { list = p.0; cursor = p.1.0; rounds = p.1.1 }
