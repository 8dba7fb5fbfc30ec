-- The bytes that a command sends: hex up to the end of the line, or a text in quotes. Assumes nothing.
use Rattle.std.specs.Prelude.{◌≡◌, ℕ, ◌+◌, ◌%◌, ◌^◌, List, [], length, ◌==◌, nat_le, nat_lt, slice_index, if◌then◌else◌, Result, Ok, Err}
use Rattle.std.proofs.lemmas.List.Edits.{sets}
use Rattle.text.specs.Runs.{hex_of}
use Rattle.text.specs.declared.hex.HexError.{HexError}
use Rattle.text.specs.declared.hex.HexError.TheVariants.{Bad, Odd, Full}
use Rattle.verbs.specs.declared.trouble.What.TheVariants as w
use Rattle.verbs.specs.declared.trouble.Trouble.{Trouble}
use Rattle.verbs.specs.declared.trouble.Trouble.TheVariants as t
use Rattle.verbs.specs.Tokens.{span, text_of, rest_of, find_in}
use Rattle.verbs.specs.Trouble.{no}
use Rattle.verbs.specs.Pieces.{ended}

-- so many places behind a place; numbers wrap, past any line's end
unfoldable pub place_of : ℕ → ℕ → ℕ
place_of at i = (at + i) % 2 ^ 64

-- what is wrong with a run of hex that started at a place
unfoldable pub hex_trouble : HexError → ℕ → Trouble
hex_trouble (Bad i) at = no (place_of at i) w.Digit
hex_trouble (Odd i) at = no (place_of at i) w.Pair
hex_trouble Full at = t.Full

abbrev pub hex_by : Result ℕ HexError → ℕ → Result ℕ Trouble
hex_by (Ok n) at = Ok n
hex_by (Err e) at = Err (hex_trouble e at)

-- what was read, and the bytes at the front of the buffer
pub record DataSaid : Type 0 where
  pub read : Result ℕ Trouble
  pub bytes : List ℕ

-- a buffer is left so by what was said
pub record Said (x : DataSaid) (old : List ℕ) (r : Result ℕ Trouble) (new : List ℕ) : Type 0 where
  pub tells : r ≡ x.read
  pub leaves : new ≡ sets old 0 x.bytes

abbrev pub said : Result ℕ Trouble → List ℕ → DataSaid
said read bytes = record { read = read; bytes = bytes }

-- ---- a text in quotes, from the place behind the first of them on

-- a text, where there is room for it
unfoldable pub copied : ℕ → List ℕ → DataSaid
copied room text = if nat_lt room (length text) then said (Err t.Full) [] else said (Ok (length text)) text

-- what is said where nothing is wrong
abbrev pub where_fine : Result Unit Trouble → DataSaid → DataSaid
where_fine (Ok fine) x = x
where_fine (Err trouble) x = said (Err trouble) []

-- a text that ends at a quote: nothing may stand behind it
unfoldable pub quoted_to : ℕ → List ℕ → ℕ → ℕ → DataSaid
quoted_to room line from end =
    if nat_le (length line) end then said (Err (no end w.Quote)) []
    else where_fine (ended line (place_of end 1) w.End) (copied room (text_of line (span from end)))

unfoldable pub quoted : ℕ → List ℕ → ℕ → DataSaid
quoted room line from = quoted_to room line from (find_in line from 34)

-- ---- either

unfoldable pub hexed : ℕ → List ℕ → ℕ → DataSaid
hexed room line at = said (hex_by (hex_of room (rest_of line at)).run at) (hex_of room (rest_of line at)).bytes

unfoldable pub data_from : ℕ → List ℕ → ℕ → DataSaid
data_from room line at = if slice_index line at == 34 then quoted room line (place_of at 1) else hexed room line at
