-- Words of a line, and what they say. Assumes nothing.
use Rattle.std.specs.Prelude.{ℕ, ◌+◌, ◌-◌, ◌*◌, Bool, not, List, [], ◌∷◌, reverse, length, take, drop, ◌==◌, nat_lt, slice_index, if◌then◌else◌, Option, Some, None, option_and_then, Result, Ok, Err}
use Rattle.text.specs.Words.{is_blank, solid, lead}
use Rattle.text.specs.Runs.{hex_of}
use Rattle.text.specs.declared.hex.HexError.{HexError}
use Rattle.verbs.specs.declared.tokens.Span.{Span}
use Rattle.verbs.specs.declared.tokens.High.{High}

-- ---- words

abbrev pub span : ℕ → ℕ → Span
span from to = record { from = from; to = to }

-- the word at a place that holds no blank: up to the next blank, and empty where a `#` opens a comment
unfoldable pub word_here : List ℕ → ℕ → Span
word_here s at = if slice_index s at == 35 then span at at else span at (at + lead solid (drop at s))

-- the next word from a place on: blanks are passed over
unfoldable pub word_from : List ℕ → ℕ → Span
word_from s from = if nat_lt (length s) from then span (length s) (length s) else word_here s (from + lead is_blank (drop from s))

abbrev pub is_empty : Span → Bool
is_empty w = w.from == w.to

-- the bytes of a word, and those of a line from a place on
unfoldable pub text_of : List ℕ → Span → List ℕ
text_of s w = if nat_lt (length s) w.to then [] else take (w.to - w.from) (drop w.from s)

abbrev pub rest_of : List ℕ → ℕ → List ℕ
rest_of s from = text_of s (span from (length s))

-- the place of the next such byte from a place on, or the end
abbrev pub another : ℕ → ℕ → Bool
another b c = not (c == b)

unfoldable pub find_in : List ℕ → ℕ → ℕ → ℕ
find_in s from b = from + lead (another b) (drop from s)

-- ---- bytes in hex, the high one first, as a UID and a mask are written

-- eight bytes with the low one first, 00 above
unfoldable pub low_first : List ℕ → List ℕ
low_first b =
    let s = reverse b in
    slice_index s 0 ∷ slice_index s 1 ∷ slice_index s 2 ∷ slice_index s 3 ∷ slice_index s 4 ∷ slice_index s 5 ∷ slice_index s 6 ∷ slice_index s 7 ∷ []

-- a run whose bytes are at the front of a buffer
abbrev pub high_by : Result ℕ HexError → List ℕ → Option High
high_by (Ok n) b = Some (record { count = n; low = low_first (take n b) })
high_by (Err e) b = None

-- what a word of hex has, up to eight bytes
unfoldable pub high_in : List ℕ → Option High
high_in s = high_by (hex_of 8 s).run (hex_of 8 s).bytes

-- one byte
abbrev pub byte_of : High → Option ℕ
byte_of h = if h.count == 1 then Some (slice_index h.low 0) else None

unfoldable pub byte_in : List ℕ → Option ℕ
byte_in s = option_and_then byte_of (high_in s)

-- ---- a number of 0 to 255 in decimal

-- a digit's value
unfoldable pub decimal_of : ℕ → Option ℕ
decimal_of c = if nat_lt c 48 then None else if nat_lt c 58 then Some (c - 48) else None

-- a number with one more digit behind it
abbrev pub digit_by : ℕ → ℕ → Option ℕ
digit_by n d = if nat_lt 255 (n * 10 + d) then None else Some (n * 10 + d)

unfoldable pub digit_on : ℕ → ℕ → Option ℕ
digit_on n c = option_and_then (digit_by n) (decimal_of c)

abbrev pub number_on : List ℕ → ℕ → Option ℕ
number_on [] n = Some n
number_on (c ∷ s) n = option_and_then (number_on s) (digit_on n c)

unfoldable pub number_in : List ℕ → Option ℕ
number_in s = if length s == 0 then None else number_on s 0
