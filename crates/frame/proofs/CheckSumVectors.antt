-- The worked values of the documents, as theorems on the definitions: antt computes them.
-- Assumes nothing.
use mathlib.Core.Path.{◌≡◌, refl}
use mathlib.Core.List.{[], ◌∷◌}
use Rattle.frame.specs.CheckSum.{crc_bit, crc_bits, crc_byte, crc_run, crc_with, crc_of}

pub sums : crc_of (1 ∷ 2 ∷ 3 ∷ 4 ∷ []) ≡ 0x3991
unfolding crc_with crc_run crc_byte crc_bits crc_bit
sums = refl
