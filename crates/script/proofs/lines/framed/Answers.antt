-- What was read of the line behind the word decides. Assumes nothing.
use Rattle.std.proofs.Common.{arith}
use Rattle.std.proofs.lemmas.Result.{err_from_is_err_and}
use Rattle.script.proofs.LinesActions.{framed_err, framed_whole, framed_summed}
use Rattle.script.proofs.lines.framed.Goals as goal

pub returns-in_err-n : goal.returns-in_err-n
returns-in_err-n c =
    let a = c.args in
    let p = err_from_is_err_and c.from_residual.result c.from_residual.ensures.1 in
    let r = framed_err a.rest.line.now a.rest.at a.bytes.now (omega arith) (omega arith) c.hex.ensures.said a.number a.whole _ c.in_err-n.was in
    record { value = rw (p.1, p.2) r.0; bytes_after = r.1 }

pub returns-then-whole : goal.returns-then-whole
returns-then-whole c =
    let a = c.args in
    let r = framed_whole a.rest.line.now a.rest.at a.bytes.now (omega arith) (omega arith) c.hex.ensures.said a.number a.whole _ c.in_ok-n.was c.if-whole.true in
    record { value = r.0; bytes_after = r.1 }

pub returns : goal.returns
returns c =
    let a = c.args in
    let r = framed_summed a.rest.line.now a.rest.at a.bytes.now (omega arith) (omega arith) c.hex.ensures.said a.number a.whole _ c.in_ok-n.was c.if-whole.false c.summed.ensures.value c.summed.ensures.bytes_after in
    record { value = r.0; bytes_after = r.1 }
