-- By what the line says. Assumes nothing.
use Rattle.std.proofs.lemmas.Result.{err_from_is_err_and}
use Rattle.script.proofs.LinesCommands.{command_ok, command_err}
use Rattle.script.proofs.commands.commanded.Goals as goal

pub returns-in_err-asked : goal.returns-in_err-asked
returns-in_err-asked c =
    let a = c.args in
    let p = err_from_is_err_and c.from_residual.result c.from_residual.ensures.1 in
    rw (p.1, p.2) (command_err a.line.now a.bytes.now c.asked_in.ensures _ c.in_err-asked.was)

pub returns : goal.returns
returns c =
    let a = c.args in
    command_ok a.line.now a.bytes.now c.asked_in.ensures _ c.in_ok-asked.was c.send_from.ensures
