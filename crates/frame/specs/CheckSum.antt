-- Document 01, "Check sum": the CRC of ISO/IEC 13239, bit by bit, and frames that end in it. One rule; start value and last inversion are parameters.
-- Assumes nothing.
use Rattle.std.specs.Prelude.{Bool, true, false, ◌&&◌, List, [], ◌∷◌, ◌++◌, ℕ, zero, suc, ◌-◌, ◌*◌, ◌/◌, ◌%◌, leb, eqb, length, take}
use Rattle.std.specs.Int.Bits.{bit_xor}
use Rattle.frame.specs.Number.{num, bytes_of, part}

-- the reflected polynomial
abbrev pub polynomial : ℕ
polynomial = 0x8408

-- one bit leaves the register at the low end; where it is 1 the polynomial is added
unfoldable pub crc_bit : ℕ → ℕ
crc_bit r = bit_xor (r / 2) (r % 2 * polynomial)

-- n bits
unfoldable pub crc_bits : ℕ → ℕ → ℕ
crc_bits zero r = r
crc_bits (suc n) r = crc_bits n (crc_bit r)

-- a byte is added to the register, and eight bits leave
unfoldable pub crc_byte : ℕ → ℕ → ℕ
crc_byte r b = crc_bits 8 (bit_xor r b)

-- the register after the bytes of s
unfoldable pub crc_run : ℕ → List ℕ → ℕ
crc_run r [] = r
crc_run r (b ∷ bs) = crc_run (crc_byte r b) bs

-- the result, inverted or not
abbrev pub crc_end : Bool → ℕ → ℕ
crc_end true r = 0xFFFF - r
crc_end false r = r

-- the one rule
unfoldable pub crc_with : ℕ → Bool → List ℕ → ℕ
crc_with start inverted s = crc_end inverted (crc_run start s)

-- s with its check sum behind it, low byte first
unfoldable pub framed_with : ℕ → Bool → List ℕ → List ℕ
framed_with start inverted s = s ++ bytes_of 2 (crc_with start inverted s)

-- a frame's bytes before its check sum
abbrev pub content : List ℕ → List ℕ
content f = take (length f - 2) f

-- the last two bytes are the check sum of the bytes before them
unfoldable pub right_with : ℕ → Bool → List ℕ → Bool
right_with start inverted f = leb 2 (length f) && eqb (num (part (length f - 2) 2 f)) (crc_with start inverted (content f))

-- ISO/IEC 13239, for labels and chips: start FFFF, inverted
abbrev pub crc_of : List ℕ → ℕ
crc_of = crc_with 0xFFFF true

abbrev pub framed : List ℕ → List ℕ
framed = framed_with 0xFFFF true

abbrev pub right : List ℕ → Bool
right = right_with 0xFFFF true
