-- Nothing above the mask's length in the whole number: no byte has a bit there.
-- Assumes nothing.
use mathlib.Core.Path.{sym, ap, ◌∙◌}
use Prim.Native.Nat.{ℕ, ◌/◌, ◌^◌}
use native.Mathlib.Omega.{arith}
use lib.ListN.{get_or}
use Rattle.frame.proofs.Ending.{high_zero}
use Rattle.label_body.proofs.FactsFine.{mask_keeps}
use Rattle.label_body.proofs.judge.judge_mask.Goals as goal

pub returns-then-high_bits-eq0 : goal.returns-then-high_bits-eq0
returns-then-high_bits-eq0 c =
    let b = c.args.b.now in
    let none = sym (c.high_bits.ensures ∙ ap (λ (n : ℕ). n / 2 ^ get_or b 16 0) c.eight_at-mask.ensures) ∙ c.if-high_bits-eq0.true in
    sym (mask_keeps b (λ i. (c.shared_slice_known-1.given i).fits) (high_zero _ (get_or b 16 0) none))

pub overflow_cast-b : goal.overflow_cast-b
overflow_cast-b c =
    omega (arith, c.shared_slice_known-2-1.given 16)
