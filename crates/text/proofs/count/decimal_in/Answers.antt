-- Each way out is a law of CountDigits. Assumes nothing.
use Rattle.std.proofs.Common.{sym, ◌∙◌}
use Rattle.text.proofs.CountDigits.{digits_start, digits_end, digits_other}
use Rattle.text.proofs.count.decimal_in.Goals as goal

pub loop-c-init : goal.loop-c-init
loop-c-init c = digits_start _

pub returns-then-not-is_ascii_digit : goal.returns-then-not-is_ascii_digit
returns-then-not-is_ascii_digit c =
    digits_other _ _ _ c.loop-c.invariant c.loop-c-test.true (sym c.is_ascii_digit.ensures.value ∙ c.if-not-is_ascii_digit.true)

pub returns : goal.returns
returns c = digits_end _ _ _ c.loop-c.invariant c.loop-c-test.false
