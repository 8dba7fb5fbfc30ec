-- What io lays is the number's text. Assumes nothing.
use Rattle.std.proofs.Common.{ap, ◌∙◌, ℕ, List}
use Rattle.print.specs.Line.{laid}
use Rattle.print.specs.Seen.{seen}
use Rattle.print.proofs.DecimalDigits.{is_decimal}
use Rattle.print.proofs.line.Line.decimal.Goals as goal

pub returns : goal.returns
returns c =
    c.put.ensures
    ∙ ap (λ (s : List ℕ). laid (seen c.args.self.now) s) (is_decimal c.decimal-k.result c.args.n _ (c.decimal-k.ensures.len, c.decimal-k.ensures.digits))
