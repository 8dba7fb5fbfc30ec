-- A word and what it is said of. Assumes nothing.
use Rattle.std.specs.Prelude.{List, [], ◌∷◌, ◌++◌, ℕ}
use Rattle.print.specs.Decimal.{decimal_text}
use Rattle.print.specs.Hex.{pairs_text}

-- a text and a byte behind it, in hex; a text and a number behind it
unfoldable pub word_byte : List ℕ → ℕ → List ℕ
word_byte s b = s ++ pairs_text (b ∷ [])

unfoldable pub word_number : List ℕ → ℕ → List ℕ
word_number s n = s ++ decimal_text n
