-- A number of one to nine decimal digits. Assumes nothing.
use Rattle.std.specs.Prelude.{Bool, ◌&&◌, List, ℕ, eqb, ltb, leb, length, if◌then◌else◌, Option, None, Some}
use Rattle.print.specs.Decimal.{decimal_value}
use Rattle.text.specs.Words.{lead}

abbrev pub is_decimal : ℕ → Bool
is_decimal c = leb 48 c && leb c 57

unfoldable pub decimal_in : List ℕ → Option ℕ
decimal_in s = if eqb (lead is_decimal s) (length s) then Some (decimal_value s) else None

unfoldable pub count_in : List ℕ → Option ℕ
count_in s = if eqb (length s) 0 then None else if ltb 9 (length s) then None else decimal_in s
