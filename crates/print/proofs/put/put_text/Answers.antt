-- What a line over the buffer leaves is what the buffer holds when the loan ends. Assumes nothing.
use Rattle.std.proofs.Common.{ap, ◌∙◌}
use Rattle.print.specs.Line.{Lent, laid}
use Rattle.print.proofs.Lent.{line_loan, line_puts}
use Rattle.print.proofs.put.put_text.Goals as goal

pub returns : goal.returns
returns c =
    let a = c.args in
    let e = c.put.ensures ∙ ap (λ (l : Lent). laid l a.s.now) c.at-line.ensures in
    rw (c.out-1.given.1.1 (line_loan _ _ _ e)) (line_puts _ a.s.now a.out.now a.at _ e c.len.ensures)
