-- Sixteen bits at once are a sum of shifts, as eight are.
-- Assumes nothing.
use native.Mathlib.Omega.{arith}
use lib.Bits.{xor_lt}
use Rattle.frame.proofs.CheckSumRegister.{sixteen_shifts}
use Rattle.frame.proofs.check_sum.two_bytes.Goals as goal

pub returns : goal.returns
returns c = sixteen_shifts _ (xor_lt 16 _ _ c.requires (omega (arith, c.ranges.low.fits, c.ranges.high.fits)))
