-- The word behind `--afi`: two hex digits, in either case, and nothing else. Assumes nothing.
use Rattle.std.specs.Prelude.{List, ℕ, ◌+◌, ◌*◌, eqb, length, get_or, if◌then◌else◌, Option, None, Some}
use Rattle.text.specs.Hex.{value_of}

unfoldable pub by_digits : Option ℕ → Option ℕ → Option ℕ
by_digits (Some h) (Some l) = Some (h * 16 + l)
by_digits (Some h) None = None
by_digits None n = None

unfoldable pub afi_in : List ℕ → Option ℕ
afi_in word = if eqb (length word) 2 then by_digits (value_of (get_or word 0 0)) (value_of (get_or word 1 0)) else None
