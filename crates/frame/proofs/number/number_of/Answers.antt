use Rattle.std.proofs.Common.{arith, ◌<◌, ◌^◌}
use Rattle.frame.proofs.Numbers.{behind_lt}
use Rattle.frame.proofs.number.number_of.Goals as goal

pub overflow_mul-n : goal.overflow_mul-n
overflow_mul-n c =
    let h : c.loop-b.n < 2 ^ 56 = behind_lt _ _ (λ i. (c.type_inv.s i).fits) c.requires c.loop-b.invariant c.in-Some.ensures.steps in
    record { fits = omega arith }

pub overflow_add-n : goal.overflow_add-n
overflow_add-n c =
    let h : c.loop-b.n < 2 ^ 56 = behind_lt _ _ (λ i. (c.type_inv.s i).fits) c.requires c.loop-b.invariant c.in-Some.ensures.steps in
    record { fits = omega arith }
