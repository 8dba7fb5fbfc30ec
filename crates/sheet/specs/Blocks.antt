-- The line of a block. Assumes nothing.
use Rattle.std.specs.Prelude.{Bool, List, [], ◌∷◌, ◌++◌, ℕ, eqb, ltb, if◌then◌else◌}
use Rattle.std.specs.List.{list_all}
use Rattle.print.specs.Ascii.{ascii}
use Rattle.print.specs.Decimal.{decimal_text}
use Rattle.print.specs.Hex.{hex_text}
use Rattle.sheet.specs.Words.{lock_column, blanks_behind}

-- 20 to 7E as themselves, others as a dot
unfoldable pub shown : ℕ → ℕ
shown b = if ltb b 32 then 46 else if ltb b 127 then b else 46

abbrev pub shown_text : List ℕ → List ℕ
shown_text [] = []
shown_text (b ∷ bs) = shown b ∷ shown_text bs

-- its number, its bytes in hex, whether it is locked, and the mark of a comment
unfoldable pub block_front : ℕ → List ℕ → Bool → List ℕ
block_front n bytes locked =
    ascii "  " ++ (decimal_text n ++ (blanks_behind n ++ (hex_text bytes ++ (lock_column locked ++ ascii "  # "))))

-- its bytes as ASCII behind it
unfoldable pub block_line : ℕ → List ℕ → Bool → List ℕ
block_line n bytes locked = block_front n bytes locked ++ (shown_text bytes ++ ascii "\n")

-- its bytes as a number behind it
unfoldable pub counter_line : ℕ → List ℕ → Bool → ℕ → List ℕ
counter_line n bytes locked counter = block_front n bytes locked ++ (ascii "counter " ++ (decimal_text counter ++ ascii "\n"))

abbrev pub all_zero : List ℕ → Bool
all_zero s = list_all (λ b. eqb b 0) s

-- a tag's first line
unfoldable pub tag_line : List ℕ → List ℕ → ℕ → List ℕ
tag_line word uid i = word ++ (uid ++ (ascii "  # tag " ++ (decimal_text i ++ ascii "\n")))
