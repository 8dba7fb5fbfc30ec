-- Eight bits at once are a sum of shifts: both sides go over exclusive or, so they are compared at the sixteen powers of two.
-- Assumes nothing.
use native.Mathlib.Omega.{arith}
use lib.Bits.{xor_lt}
use Rattle.frame.specs.CheckSum.{crc_byte}
use Rattle.frame.proofs.CheckSumRegister.{eight_shifts}
use Rattle.frame.proofs.check_sum.one_byte.Goals as goal

pub returns : goal.returns
unfolding crc_byte
returns c = eight_shifts _ (xor_lt 16 _ _ c.requires (omega (arith, c.ranges.b.fits)))
