-- What is above bit 16 falls only, so the sum fits.
-- Assumes nothing.
use Prim.Native.Nat.{◌/◌}
use native.Mathlib.Omega.{arith}
use lib.Bits.{and_le_l}
use Rattle.chip.specs.Write.{lock_down}
use borrow.Author.Rules.{rules}
use Rattle.chip.proofs.step.lock_down.Goals as goal

pub overflow_mul-result : goal.overflow_mul-result
unfolding lock_down
overflow_mul-result c =
    record { fits = omega (arith, and_le_l (c.args.o / 65536) (c.args.w / 65536)) }

pub overflow_add-result : goal.overflow_add-result
unfolding lock_down
overflow_add-result c =
    record { fits = omega (arith, and_le_l (c.args.o / 65536) (c.args.w / 65536)) }

pub returns : goal.returns
unfolding lock_down
returns c =
    search rules
