-- Refused, nothing changes; otherwise the rack is cleared, the UIDs are carried through from no mask on, and the reply is demand 3.
use Rattle.std.proofs.Common.{rules, ◌∙◌}
use Rattle.frame.specs.Number.{Bytes}
use Rattle.inventory.proofs.WalkCalls.{call_refused, call_fine, call_asks, call_walked}
use Rattle.inventory.proofs.walk.walk.Goals as goal

pub returns-in-Err : goal.returns-in-Err
returns-in-Err c =
    let bytes : Bytes c.args.rack.now = search rules in
    rw c.number.ensures (call_refused c.args.rack.now bytes c.args.family c.args.list.now c.in-Err.refusal c.in-Err.ensures)

pub clear_rack-requires : goal.clear_rack-requires
clear_rack-requires c =
    let bytes : Bytes c.args.rack.now = search rules in
    call_fine c.args.rack.now bytes c.args.family c.args.list.now c.in_default.ensures.0

pub carry-went-requires : goal.carry-went-requires
carry-went-requires c =
    let bytes : Bytes c.args.rack.now = search rules in
    let e = c.in_default.ensures in
    let p = call_asks c.args.rack.now bytes c.args.family c.args.list.now e.0 (c.as_mut_slice.ensures ∙ e.1) in
    record { room = p.0; few = p.1.0; mask = p.1.1 }

pub returns : goal.returns
returns c =
    let bytes : Bytes c.args.rack.now = search rules in
    let e = c.in_default.ensures in
    let w = c.carry-went.ensures in
    call_walked c.args.rack.now bytes c.args.family c.args.list.now e.0 (c.as_mut_slice.ensures ∙ e.1) c.clear_rack.ensures
    (w.list, (w.cursor, w.rounds))
