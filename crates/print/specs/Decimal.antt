-- Numbers in decimal. Assumes nothing.
use Rattle.std.specs.Prelude.{List, [], ◌∷◌, ◌++◌, ℕ, zero, suc, ◌+◌, ◌-◌, ◌*◌, ◌/◌, ◌%◌, ltb, if◌then◌else◌}
use Rattle.print.specs.Hex.{digit_of}

-- the digits of a number n that is at most k, the first of them no zero unless it stands alone
abbrev pub decimal_to : ℕ → ℕ → List ℕ
decimal_to zero n = digit_of n ∷ []
decimal_to (suc k) n = if ltb n 10 then digit_of n ∷ [] else decimal_to k (n / 10) ++ (digit_of (n % 10) ∷ [])

unfoldable pub decimal_text : ℕ → List ℕ
decimal_text n = decimal_to n n

-- a text, a number behind it, and the end of the line
unfoldable pub number_line : List ℕ → ℕ → List ℕ
number_line s n = s ++ (decimal_text n ++ (10 ∷ []))

-- the number that digits say, n those before them
abbrev pub decimal_on : ℕ → List ℕ → ℕ
decimal_on n [] = n
decimal_on n (c ∷ s) = decimal_on (n * 10 + (c - 48)) s

unfoldable pub decimal_value : List ℕ → ℕ
decimal_value s = decimal_on 0 s
