-- A text that is too short has no mark. Assumes nothing.
use mathlib.Core.Path.{◌≡◌, ap, sym}
use mathlib.Core.List.{List}
use Prim.Native.Nat.{ℕ, ◌<◌}
use native.Mathlib.Omega.{arith}
use lib.Dec.{eqb}
use lib.ListN.{length, get_or, get_or-eq_default}
use Rattle.frame.proofs.Bools.{off_and, if_false}
use Rattle.text.specs.Mark.{mark_length}

pub mark_short : (s : List ℕ) → length s < 3 → 0 ≡ mark_length s
unfolding mark_length
mark_short s h =
    let z : get_or s 2 0 ≡ 0 = get_or-eq_default s 0 {n = 2} (omega arith) in
    sym (if_false _ 3 0 (off_and (eqb (get_or s 0 0) 239) _ (λ p. off_and (eqb (get_or s 1 0) 187) _ (λ q. ap (λ (c : ℕ). eqb c 191) z))))
