-- A run of hex: pairs of digits, gaps around pairs and `0x` before them, up to the end or a `#` behind a blank. Assumes nothing.
use Rattle.std.specs.Prelude.{Bool, false, ◌&&◌, ◌||◌, List, [], ◌∷◌, ℕ, suc, ◌+◌, ◌*◌, eqb, ltb, leb, length, get_or, if◌then◌else◌}
use Rattle.std.specs.Prelude.{Option, None, Some, is_some, Result, Ok, Err}
use Rattle.text.specs.declared.hex.HexError.{HexError}
use Rattle.text.specs.declared.hex.HexError.TheVariants.{Bad, Odd, Full}
use Rattle.text.specs.Hex.{value_of}
use Rattle.text.specs.Words.{is_blank, lowered}

-- ---- what is passed over

-- blanks, colons and dashes part bytes
unfoldable pub is_gap : ℕ → Bool
is_gap c = is_blank c || (eqb c 58 || eqb c 45)

-- `0x`, the letter in either case, and two digits right behind it
unfoldable pub opening : List ℕ → Bool
opening t =
    eqb (get_or t 0 0) 48 && (eqb (lowered (get_or t 1 0)) 120 && (is_some (value_of (get_or t 2 0)) && is_some (value_of (get_or t 3 0))))

-- ---- one place. t is the text from place `at` on, n bytes came before it, and there is room for `room`; `blank`: a blank stands before it

-- a byte, or none where the run ends
abbrev pub Piece : Type 0
Piece = Result (Option ℕ) HexError

-- the second digit, at the next place
abbrev pub second_digit : ℕ → ℕ → ℕ → ℕ → Option ℕ → Piece
second_digit room n at h None = Err (Bad (at + 1))
second_digit room n at h (Some l) = if leb room n then Err Full else Ok (Some (h * 16 + l))

-- what is no digit ends the run if it is a `#` behind a blank
unfoldable pub unread : ℕ → Bool → ℕ → Piece
unread at blank c = if eqb c 35 && blank then Ok None else Err (Bad at)

abbrev pub first_digit : ℕ → ℕ → ℕ → Bool → List ℕ → Option ℕ → Piece
first_digit room n at blank t None = unread at blank (get_or t 0 0)
first_digit room n at blank t (Some h) =
    if ltb (length t) 2 then Err (Odd at)
    else if is_gap (get_or t 1 0) then Err (Odd at)
    else second_digit room n at h (value_of (get_or t 1 0))

unfoldable pub piece_of : ℕ → ℕ → ℕ → Bool → List ℕ → Piece
piece_of room n at blank t = first_digit room n at blank t (value_of (get_or t 0 0))

-- ---- all of it

-- the bytes read, and how many they are or why the run cannot be read
pub record HexRead : Type 0 where
  pub bytes : List ℕ
  pub run : Result ℕ HexError

abbrev pub stop : Result ℕ HexError → HexRead
stop r = record { bytes = []; run = r }

-- a piece, n bytes before it, and what is read behind it
abbrev pub onward : ℕ → Piece → HexRead → HexRead
onward n (Ok (Some b)) rest = record { bytes = b ∷ rest.bytes; run = rest.run }
onward n (Ok None) rest = stop (Ok n)
onward n (Err e) rest = stop (Err e)

-- gaps and openings are passed over
abbrev pub read_hex : ℕ → ℕ → ℕ → Bool → List ℕ → HexRead
read_hex room n at blank [] = stop (Ok n)
read_hex room n at blank (c ∷ []) = if is_gap c then stop (Ok n) else onward n (piece_of room n at blank (c ∷ [])) (stop (Ok (suc n)))
read_hex room n at blank (c ∷ d ∷ t) =
    if is_gap c then read_hex room n (suc at) (is_blank c) (d ∷ t)
    else if opening (c ∷ d ∷ t) then read_hex room n (at + 2) false t
    else onward n (piece_of room n at blank (c ∷ d ∷ t)) (read_hex room (suc n) (at + 2) false t)

-- what a text says, for so much room
unfoldable pub hex_of : ℕ → List ℕ → HexRead
hex_of room s = read_hex room 0 0 false s
