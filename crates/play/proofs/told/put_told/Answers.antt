-- The meaning is laid by itself first, since the line asks whether there is one. Assumes nothing.
use Rattle.std.proofs.Common.{◌∙◌, refl, ap, rules}
use Rattle.print.specs.Line.{Lent}
use Rattle.print.specs.Seen.{seen}
use Rattle.print.proofs.Lent.{line_loan}
use Rattle.play.proofs.ToldLeft.{told_laid}
use Rattle.play.proofs.told.put_told.Goals as goal

pub returns : goal.returns
returns c =
    let e = c.args.e.now in
    let m = rw c.new-meaning.ensures at c.put_beside.ensures in
    told_laid c.args.n e.number e.frame.now e.draws.now e.old e.tags e.answer.now e.report (seen c.args.out.now) _ e.heard refl (search rules)
    (c.text.ensures ∙ ap (λ (l : Lent). l.text) m) c.put_line.ensures c.put_behind.ensures

pub shape_of-room : goal.shape_of-room
shape_of-room c = let m = rw c.new-meaning.ensures at c.put_beside.ensures in line_loan _ _ _ m
