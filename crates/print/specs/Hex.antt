-- Bytes in hex. Assumes nothing.
use Rattle.std.specs.Prelude.{List, [], ◌∷◌, reverse, ℕ, ◌+◌, ◌/◌, ◌%◌, ltb, if◌then◌else◌}

-- the capital digit of a number below 16, or `?`
unfoldable pub digit_of : ℕ → ℕ
digit_of n = if ltb n 10 then 48 + n else if ltb n 16 then 55 + n else 63

-- bytes in hex: a space before each, two capitals
abbrev pub hex_text : List ℕ → List ℕ
hex_text [] = []
hex_text (b ∷ bs) = 32 ∷ digit_of (b / 16) ∷ digit_of (b % 16) ∷ hex_text bs

-- bytes in hex with nothing between them: two capitals each
abbrev pub pairs_text : List ℕ → List ℕ
pairs_text [] = []
pairs_text (b ∷ bs) = digit_of (b / 16) ∷ digit_of (b % 16) ∷ pairs_text bs

-- a UID, whose low byte comes first, is written high byte first
unfoldable pub uid_text : List ℕ → List ℕ
uid_text u = pairs_text (reverse u)
