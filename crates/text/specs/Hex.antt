-- The values of hex digits, and whether a blank stands before a place. Assumes nothing.
use Rattle.std.specs.Prelude.{Bool, not, ◌&&◌, List, Option, None, Some, ℕ, ◌-◌, eqb, ltb, get_or, if◌then◌else◌}
use Rattle.text.specs.Words.{is_blank}

-- the value of a byte of text as a digit: 0 to 9, A to F, a to f
unfoldable pub value_of : ℕ → Option ℕ
value_of c =
    if ltb c 48 then None
    else if ltb c 58 then Some (c - 48)
    else if ltb c 65 then None
    else if ltb c 71 then Some (c - 55)
    else if ltb c 97 then None
    else if ltb c 103 then Some (c - 87)
    else None

-- a blank stands before a place
unfoldable pub blank_before : List ℕ → ℕ → Bool
blank_before s at = not (eqb at 0) && is_blank (get_or s (at - 1) 0)
