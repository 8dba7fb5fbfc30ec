-- Tests and choices, by the cases of Bool: tests that are true together are equal, `and` and `or` by their sides, and a choice is one of its two sides.
-- Assumes nothing.
use Rattle.std.specs.Prelude.{if◌then◌else◌}
use mathlib.Core.Path.{◌≡◌, refl, sym}
use mathlib.Core.Logic.{◌⊎◌, inl, inr}
use mathlib.Core.Bool.{Bool, true, false, not, ◌&&◌, ◌||◌, false≢true}
use Prim.Native.Nat.{ℕ, ◌≤◌, ◌<◌}
use lib.Dec.{eqb, ltb}
use borrow.Author.Tests.{eqb-true, eqb-false, eq-eqb, ltb-true, ltb-false, not-false}

-- ---- tests

pub bool_same : (t u : Bool) → (t ≡ true → u ≡ true) → (u ≡ true → t ≡ true) → t ≡ u
bool_same true u f g = sym (f refl)
bool_same false true f g = g refl
bool_same false false f g = refl

pub eqb_same : (a b c d : ℕ) → (a ≡ b → c ≡ d) → (c ≡ d → a ≡ b) → eqb a b ≡ eqb c d
eqb_same a b c d f g = bool_same (eqb a b) (eqb c d) (λ e. eq-eqb c d (f (eqb-true a b e))) (λ e. eq-eqb a b (g (eqb-true c d e)))

-- a test for another number failed
pub not_other : (x n : ℕ) → not (eqb x n) ≡ false → x ≡ n
not_other x n e = eqb-true x n (not-false (eqb x n) e)

-- a test decides
pub below_or_not : (n k : ℕ) → (n < k) ⊎ (k ≤ n)
below_or_not n k = go (ltb n k) (ltb-true n k) (ltb-false n k)
  where
    go : (t : Bool) → (t ≡ true → n < k) → (t ≡ false → k ≤ n) → (n < k) ⊎ (k ≤ n)
    go true f g = inl (f refl)
    go false f g = inr (g refl)

pub same_or_not : (m n : ℕ) → (m ≡ n) ⊎ (m ≡ n → ⊥)
same_or_not m n = go (eqb m n) (eqb-true m n) (eqb-false m n)
  where
    go : (t : Bool) → (t ≡ true → m ≡ n) → (t ≡ false → m ≡ n → ⊥) → (m ≡ n) ⊎ (m ≡ n → ⊥)
    go true f g = inl (f refl)
    go false f g = inr (g refl)

-- ---- and, or

pub and_false : (a : Bool) → (a && false) ≡ false
and_false true = refl
and_false false = refl

pub and_both : (a b : Bool) → (a && b) ≡ true → (a ≡ true) × (b ≡ true)
and_both true b e = (refl, e)
and_both false b e = absurd (false≢true e)

pub and_true : (t : Bool) → t ≡ (t && true)
and_true true = refl
and_true false = refl

pub and_off : (t u : Bool) → (t && u) ≡ false → t ≡ true → u ≡ false
and_off true u e f = e
and_off false u e f = absurd (false≢true f)

pub off_and : (t u : Bool) → (t ≡ true → u ≡ false) → (t && u) ≡ false
off_and true u f = f refl
off_and false u f = refl

pub or_either : (t u : Bool) → (t || u) ≡ true → (t ≡ true) ⊎ (u ≡ true)
or_either true u e = inl refl
or_either false u e = inr e

pub or_right : (t u : Bool) → u ≡ true → (t || u) ≡ true
or_right true u e = refl
or_right false u e = e

pub or_off : (t u : Bool) → (t || u) ≡ false → (t ≡ false) × (u ≡ false)
or_off true u e = absurd (false≢true (sym e))
or_off false u e = (refl, e)

pub off_or : (t u : Bool) → t ≡ false → u ≡ false → (t || u) ≡ false
off_or t u e f = rw (e, f)

-- ---- a choice

pub if_true : {A : Type 0} (t : Bool) (a b : A) → t ≡ true → (if t then a else b) ≡ a
if_true true a b e = refl
if_true false a b e = absurd (false≢true e)

pub if_false : {A : Type 0} (t : Bool) (a b : A) → t ≡ false → (if t then a else b) ≡ b
if_false true a b e = absurd (false≢true (sym e))
if_false false a b e = refl

-- a property holds of a choice where it holds of the side taken ..
pub if_either : {A : Type 0} (P : A → Type 0) (t : Bool) (x y : A) → (t ≡ true → P x) → (t ≡ false → P y) → P (if t then x else y)
if_either P true x y f g = f refl
if_either P false x y f g = g refl

-- .. and so where it holds of both
pub if_both : {A : Type 0} (P : A → Type 0) (t : Bool) {x y : A} → P x → P y → P (if t then x else y)
if_both P true f g = f
if_both P false f g = g

-- a choice between equals
pub if_same : {A : Type 0} (t : Bool) (x : A) → (if t then x else x) ≡ x
if_same true x = refl
if_same false x = refl
