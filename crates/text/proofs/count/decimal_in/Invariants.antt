-- The digits so far say a number of as many digits (`Digits`). Assumes nothing.
use Rattle.text.proofs.CountDigits.{Digits}
use Rattle.text.proofs.count.decimal_in.Given as goal

abbrev pub invariant-loop-c : goal.invariant-loop-c
invariant-loop-c l = Digits l.word l.n l.c-index
