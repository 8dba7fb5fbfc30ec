-- Under eight bits there is no whole byte; else the whole bytes first, and the odd bits where those are the same.
-- Assumes nothing.
use mathlib.Core.Path.{◌≡◌, ◌∙◌}
use Prim.Native.Nat.{ℕ, ◌+◌, ◌-◌, ◌%◌}
use native.Mathlib.Omega.{arith}
use borrow.Author.Tests.{ne_eqb}
use Rattle.frame.specs.Ending.{ends_in}
use Rattle.frame.proofs.Ending.{odd_bits, whole_bytes}
use Rattle.frame.proofs.uid.ends_in.Goals as goal

pub returns-then-bits-lt8 : goal.returns-then-bits-lt8
unfolding ends_in
returns-then-bits-lt8 c = cc

all-bits : (bits : ℕ) → bits % 8 + (bits - bits % 8) ≡ bits
all-bits bits = omega arith

pub returns-then-low_bits : goal.returns-then-low_bits
returns-then-low_bits c =
    odd_bits _ _ _ _ (all-bits _) c.uid_number-n.ensures c.low_bits-2.ensures c.low_bits-3.ensures c.if-low_bits.true
    c.high_bits.ensures c.low_bits-then-low_bits.ensures c.high_bits-then-low_bits.ensures

pub returns-else-low_bits : goal.returns-else-low_bits
returns-else-low_bits c =
    ne_eqb _ _ c.if-low_bits.false
    ∙ whole_bytes _ _ _ _ (all-bits _) c.uid_number-n.ensures c.low_bits-2.ensures c.low_bits-3.ensures c.if-low_bits.false
