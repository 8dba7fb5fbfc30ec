-- What is tested over indices, by induction on how many there are. Assumes nothing.
use mathlib.Core.Path.{◌≡◌, refl}
use mathlib.Core.Logic.{⊎_elim}
use mathlib.Core.Bool.{Bool, true, false, ◌&&◌}
use Prim.Native.Nat.{ℕ, zero, suc, ◌+◌, ◌≤◌, ◌<◌}
use native.Mathlib.Nat.{eq-or-lt_of_le}
use native.Mathlib.Numerals.{add-one}
use native.Mathlib.Omega.{arith}
use Rattle.frame.specs.Choose.{all_of}
use Rattle.frame.proofs.Bools.{and_both, and_false}

pub all_none : (f : ℕ → Bool) → all_of 0 f ≡ true
unfolding all_of
all_none f = refl

all_suc : (i : ℕ) (f : ℕ → Bool) → all_of (suc i) f ≡ (all_of i f && f i)
unfolding all_of
all_suc i f = refl

-- a turn of a loop: one more
pub all_more : (i : ℕ) (f : ℕ → Bool) → all_of i f ≡ true → f i ≡ true → all_of (i + 1) f ≡ true
all_more i f h e = rw (add-one, all_suc i f, h, e)

-- each of them ..
pub all_at : (n : ℕ) (f : ℕ → Bool) → all_of n f ≡ true → (i : ℕ) → i < n → f i ≡ true
all_at zero f h i l = absurd (omega arith)
all_at (suc n) f h i l =
    let e = and_both (all_of n f) (f n) (rw (all_suc n f) at h) in
    let b : i ≤ n = omega arith in
    ⊎_elim (λ (q : i ≡ n). rw q e.1) (λ (q : i < n). all_at n f e.0 i q) (eq-or-lt_of_le b)

-- .. is all of them
pub all_of_each : (n : ℕ) (f : ℕ → Bool) → ((i : ℕ) → i < n → f i ≡ true) → all_of n f ≡ true
all_of_each zero f h = all_none f
all_of_each (suc n) f h = rw (all_suc n f, all_of_each n f (λ i l. h i (omega arith)), h n (omega arith))

-- and one that fails is enough
pub all_fails : (n : ℕ) (f : ℕ → Bool) (i : ℕ) → i < n → f i ≡ false → all_of n f ≡ false
all_fails zero f i l e = absurd (omega arith)
all_fails (suc n) f i l e =
    let b : i ≤ n = omega arith in
    ⊎_elim
    (λ (q : i ≡ n). rw (all_suc n f, ← q, e) (and_false (all_of i f)))
    (λ (q : i < n). rw (all_suc n f, all_fails n f i q e))
    (eq-or-lt_of_le b)

-- the same tests
pub all_ext : (n : ℕ) (f g : ℕ → Bool) → ((i : ℕ) → i < n → f i ≡ g i) → all_of n f ≡ all_of n g
unfolding all_of
all_ext zero f g h = refl
all_ext (suc n) f g h = rw (all_ext n f g (λ i l. h i (omega arith)), h n (omega arith))
