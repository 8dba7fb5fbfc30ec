-- A front that was laid, and behind it its gap, the meaning and the end of the line. Assumes nothing.
use mathlib.Core.Path.{◌≡◌, ◌∙◌}
use mathlib.Core.List.{List, ◌++◌}
use Prim.Native.Nat.{ℕ, ◌-◌, ◌≤◌}
use native.Mathlib.Omega.{arith}
use lib.ListN.{length, take, length-append}
use Rattle.print.specs.Ascii.{ascii}
use Rattle.print.specs.Line.{Lent, laid}
use Rattle.print.proofs.Lines.{laid_both, laid_width}
use Rattle.tell.specs.Lines.{gap_of, beside_text, line_text}

pub line_laid : (old : Lent) (front meaning : List ℕ)
    → laid (laid (laid old front) (beside_text (gap_of (length (laid old front).text - length old.text)) meaning)) (ascii "\n")
    ≡ laid old (line_text front meaning)
unfolding line_text
line_laid old front meaning =
    laid_both (laid old front) (beside_text (gap_of (length (laid old front).text - length old.text)) meaning) (ascii "\n")
    ∙ laid_width old front (λ (w : ℕ). beside_text (gap_of w) meaning ++ ascii "\n")

-- a line grows
pub laid_grows : (old : Lent) (s : List ℕ) → length old.text ≤ length (laid old s).text
unfolding laid
laid_grows old s = let l = length-append old.text (take (length old.behind) s) in omega arith
