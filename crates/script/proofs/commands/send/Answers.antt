-- The writer's own statement. Assumes nothing.
use Rattle.script.proofs.LinesCommands.{sends_ok, sends_err}
use Rattle.script.proofs.commands.send.Goals as goal

pub returns-in-Ok : goal.returns-in-Ok
returns-in-Ok c =
    let a = c.args in
    sends_ok a.c a.uid a.«data».now a.bytes.now _ c.try_write.ensures _ _ c.in-Ok.is c.event_of.ensures

pub returns-in-Err : goal.returns-in-Err
returns-in-Err c =
    let a = c.args in
    sends_err a.c a.uid a.«data».now a.bytes.now _ c.try_write.ensures _ c.in-Err.is c.refused.ensures
