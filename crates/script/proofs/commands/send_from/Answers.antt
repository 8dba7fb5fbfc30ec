-- By what was read. Assumes nothing.
use Rattle.std.proofs.lemmas.Result.{err_from_is_err_and}
use Rattle.script.proofs.LinesCommands.{from_ok, from_err}
use Rattle.script.proofs.commands.send_from.Goals as goal

pub returns-in_err-n : goal.returns-in_err-n
returns-in_err-n c =
    let a = c.args in
    let p = err_from_is_err_and c.from_residual.result c.from_residual.ensures.1 in
    rw (p.1, p.2) (from_err a.asked a.line.now a.«data».now a.bytes.now c.bytes.ensures.said _ c.in_err-n.was)

pub returns : goal.returns
returns c =
    let a = c.args in
    from_ok a.asked a.line.now a.«data».now a.bytes.now c.bytes.ensures.said _ c.in_ok-n.was c.send.ensures
