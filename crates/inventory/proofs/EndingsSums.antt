-- Sums over slots, and a list taken apart by slots. Idea: what adds up over the elements, each looking only at its own slot, adds up over the slots (`apart`).
-- Assumes nothing.
use mathlib.Core.Path.{◌≡◌, refl, sym, subst, ◌∙◌}
use mathlib.Core.Logic.{⊎_elim}
use mathlib.Core.List.{List, [], ◌∷◌}
use mathlib.Core.Bool.{Bool, true, false}
use Prim.Native.Nat.{ℕ, zero, suc, ◌+◌, ◌-◌, ◌≤◌, ◌<◌}
use native.Mathlib.Nat.{add-zero, add-suc, eq-or-lt_of_le}
use native.Mathlib.Omega.{arith}
use lib.Dec.{eqb}
use borrow.Author.Tests.{ne_eqb, eqb-true, eqb-false}
use Rattle.inventory.specs.Endings.{keep_if, keep, sum_to}
use Rattle.inventory.specs.Numbers.{only}

pub sum_zero : (n : ℕ) (f : ℕ → ℕ) → ((s : ℕ) → f s ≡ 0) → sum_to n f ≡ 0
sum_zero zero f h = refl
sum_zero (suc n) f h = omega (arith, sum_zero n f h, h n)

pub sum_add : (n : ℕ) (f g : ℕ → ℕ) → sum_to n (λ s. f s + g s) ≡ sum_to n f + sum_to n g
sum_add zero f g = refl
sum_add (suc n) f g = omega (arith, sum_add n f g)

pub sum_ext : (n : ℕ) (f g : ℕ → ℕ) → ((s : ℕ) → s < n → f s ≡ g s) → sum_to n f ≡ sum_to n g
sum_ext zero f g h = refl
sum_ext (suc n) f g h =
    let i = sum_ext n f g (λ s b. h s (omega arith)) in
    omega (arith, i, h n (omega arith))

-- from the front
pub sum_front : (n : ℕ) (f : ℕ → ℕ) → sum_to (suc n) f ≡ f 0 + sum_to n (λ s. f (suc s))
sum_front zero f = omega arith
sum_front (suc n) f = omega (arith, sum_front n f)

-- a part of a sum
sum_grows : (n i : ℕ) (g : ℕ → ℕ) → sum_to i g ≤ sum_to (i + n) g
sum_grows zero i g = rw add-zero (omega arith)
sum_grows (suc n) i g = rw add-suc (omega (arith, sum_grows n i g))

pub sum_within : (i n : ℕ) (g : ℕ → ℕ) → i ≤ n → sum_to i g ≤ sum_to n g
sum_within i n g h =
    let e : i + (n - i) ≡ n = omega arith in
    subst (λ (k : ℕ). sum_to i g ≤ sum_to k g) e (sum_grows (n - i) i g)

pub sum_still : (n s : ℕ) (g : ℕ → ℕ) → s ≤ n → ((q : ℕ) → s ≤ q → q < n → g q ≡ 0) → sum_to n g ≡ sum_to s g
sum_still zero s g h e = let z : s ≡ 0 = omega arith in rw z refl
sum_still (suc n) s g h e =
    ⊎_elim
    (λ (q : s ≡ suc n). rw q refl)
    (λ (q : s < suc n). let b : s ≤ n = omega arith in omega (arith, e n b (omega arith), sum_still n s g b (λ p c d. e p c (omega arith))))
    (eq-or-lt_of_le h)

-- one slot of n has d
sum_none : (n s d : ℕ) → n ≤ s → sum_to n (λ t. only (eqb s t) d) ≡ 0
sum_none zero s d h = refl
sum_none (suc n) s d h =
    let e : eqb s n ≡ false = ne_eqb s n (omega arith) in
    rw e (omega (arith, sum_none n s d (omega arith)))

sum_one : (n s d : ℕ) → s < n → sum_to n (λ t. only (eqb s t) d) ≡ d
sum_one zero s d h = absurd (omega arith)
sum_one (suc n) s d h = go (λ b. sum_one n s d b) (eqb s n) refl
  where
    go : (s < n → sum_to n (λ t. only (eqb s t) d) ≡ d) → (b : Bool) → eqb s n ≡ b → sum_to n (λ t. only (eqb s t) d) + only (eqb s n) d ≡ d
    go ih true e = let q = eqb-true s n e in rw e (omega (arith, sum_none n s d (omega arith)))
    go ih false e = let q = eqb-false s n e in rw e (omega (arith, ih (omega arith)))

-- A list taken apart by slots: what adds up over the elements adds up over the slots.
-- F x ∷ xs is F xs and what x adds, which only those of its slot decide.
module _ (slot : ℕ → ℕ) where
  abbrev pub group : ℕ → List ℕ → List ℕ
  group s xs = keep (λ u. eqb (slot u) s) xs

  module _ (n : ℕ) (inside : (u : ℕ) → slot u < n)
      (F : List ℕ → ℕ) (δ : ℕ → List ℕ → ℕ) (none : F [] ≡ 0)
      (more : (x : ℕ) (xs : List ℕ) → F (x ∷ xs) ≡ δ x xs + F xs)
      (own : (x : ℕ) (xs : List ℕ) → δ x (group (slot x) xs) ≡ δ x xs) where
    at : (x : ℕ) (xs : List ℕ) (s : ℕ) → F (group s (x ∷ xs)) ≡ only (eqb (slot x) s) (δ x xs) + F (group s xs)
    at x xs s = go (eqb (slot x) s) refl
      where
        go : (b : Bool) → eqb (slot x) s ≡ b → F (keep_if b x (group s xs)) ≡ only b (δ x xs) + F (group s xs)
        go true e =
            let q : slot x ≡ s = eqb-true (slot x) s e in
            let o : δ x (group s xs) ≡ δ x xs = rw q at (own x xs) in
            omega (arith, more x (group s xs))
        go false e = omega arith

    pub apart : (xs : List ℕ) → F xs ≡ sum_to n (λ s. F (group s xs))
    apart [] = none ∙ sym (sum_zero n (λ s. F []) (λ s. none))
    apart (x ∷ xs) =
        let a = sum_ext n (λ s. F (group s (x ∷ xs))) (λ s. only (eqb (slot x) s) (δ x xs) + F (group s xs)) (λ s b. at x xs s) in
        let b = sum_add n (λ s. only (eqb (slot x) s) (δ x xs)) (λ s. F (group s xs)) in
        let c = sum_one n (slot x) (δ x xs) (inside x) in
        omega (arith, a, b, c, more x xs, apart xs)
