-- Each way out is a law of RunsPassed. Assumes nothing.
use Rattle.text.proofs.RunsPassed.{opens_short, opens_other, opens_letter, opens_alone, opens_pair}
use Rattle.text.proofs.hex.opens.Goals as goal
use Rattle.text.proofs.hex.opens.Goals.{then-s-at-lt4-via-then-s-at-lt4, then-s-at-lt4-via-else-s-at-lt4+then-s-at-ne48, then-s-at-lt4-via-else-s-at-lt4+else-s-at-ne48+then-to_ascii_lowercase-ne120}

pub returns-then-s-at-lt4 : goal.returns-then-s-at-lt4
returns-then-s-at-lt4 c =
    let s = c.args.s.now in
    elim c.then-s-at-lt4.branch [
      | then-s-at-lt4-via-then-s-at-lt4 w ↦ opens_short s _ w.if-s-at-lt4.true
      | then-s-at-lt4-via-else-s-at-lt4+then-s-at-ne48 w ↦ opens_other s _ w.if-s-at-ne48.true
      | then-s-at-lt4-via-else-s-at-lt4+else-s-at-ne48+then-to_ascii_lowercase-ne120 w ↦ opens_letter s _ w.if-s-at-ne48.false _ w.to_ascii_lowercase.ensures.value w.if-to_ascii_lowercase-ne120.true
    ]

pub returns-then-is_digit : goal.returns-then-is_digit
returns-then-is_digit c =
    opens_pair c.args.s.now _ c.if-s-at-ne48.false _ c.to_ascii_lowercase.ensures.value c.if-to_ascii_lowercase-ne120.false _ c.is_digit.ensures c.if-is_digit.true _
    c.is_digit-then-is_digit.ensures

pub returns-else-is_digit : goal.returns-else-is_digit
returns-else-is_digit c =
    opens_alone c.args.s.now _ c.if-s-at-ne48.false _ c.to_ascii_lowercase.ensures.value c.if-to_ascii_lowercase-ne120.false _ c.is_digit.ensures c.if-is_digit.false
