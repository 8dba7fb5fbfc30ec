-- Lists that code spells out element by element: a list is the values of its own `get_or`, one after the other.
-- At numerals `values_from` and `window` compute to `f i ∷ f (i + 1) ∷ ..`, so a literal of code, or a table, is compared with them by computing.
-- Assumes nothing.
use mathlib.Core.Path.{◌≡◌, refl, sym, ap, ◌∙◌}
use mathlib.Core.List.{List, [], ◌∷◌, ◌++◌}
use Prim.Native.Nat.{ℕ, zero, suc, ◌+◌, ◌≤◌, ◌<◌}
use native.Mathlib.Nat.{add-zero, zero-add, add-suc, suc-add, le_of_suc-le-suc, not-suc-le-zero}
use native.Mathlib.Numerals.{add-one, towards_suc}
use native.Mathlib.Omega.{arith}
use lib.ListN.{length, get_or, take, drop}
use lib.Seq.{drop-cons, get_or-drop}
use Rattle.frame.specs.Choose.{gather}

-- the first of what is left
pub drop_head : (i : ℕ) (s : List ℕ) → get_or (drop i s) 0 0 ≡ get_or s i 0
drop_head i s = get_or-drop i s 0 0 ∙ ap (λ (j : ℕ). get_or s j 0) (add-zero i)

-- ---- what a loop gathers

pub gather_none : {A : Type 0} (f : ℕ → List A) → gather 0 f ≡ []
unfolding gather
gather_none f = refl

pub gather_suc : {A : Type 0} (i : ℕ) (f : ℕ → List A) → gather (suc i) f ≡ gather i f ++ f i
unfolding gather
gather_suc i f = refl

pub gather_more : {A : Type 0} (i : ℕ) (f : ℕ → List A) → gather (i + 1) f ≡ gather i f ++ f i
gather_more i f = rw (add-one, gather_suc)

-- ---- the values of a function

-- f i, f (i + 1), .., n of them
abbrev pub values_from : (ℕ → ℕ) → ℕ → ℕ → List ℕ
values_from f i zero = []
values_from f i (suc n) = f i ∷ values_from f (suc i) n

from : (f : ℕ → ℕ) (i n k : ℕ) → k < n → get_or (values_from f i n) k 0 ≡ f (i + k)
from f i zero k h = absurd (not-suc-le-zero h)
from f i (suc n) zero h = simp add-zero
from f i (suc n) (suc k) h = from f (suc i) n k (le_of_suc-le-suc h) ∙ simp (suc-add, add-suc)

-- where a table's entries are a function's values, an entry is the value at its place
pub value_at : (f : ℕ → ℕ) (n k : ℕ) → k < n → get_or (values_from f 0 n) k 0 ≡ f k
value_at f n k h = from f 0 n k h ∙ ap f (zero-add k)

pub shift : (f : ℕ → ℕ) (i n : ℕ) → values_from f (suc i) n ≡ values_from (λ k. f (suc k)) i n
shift f i zero = refl
shift f i (suc n) = ap (λ (l : List ℕ). f (suc i) ∷ l) (shift f (suc i) n)

-- a part of n elements from place i, one by one
pub part_values : (n i : ℕ) (d : List ℕ) → i + n ≤ length d → take n (drop i d) ≡ values_from (λ k. get_or d k 0) i n
part_values zero i d h = refl
part_values (suc n) i d h =
    ap (take (suc n)) (drop-cons d i 0 (omega arith)) ∙ ap (λ (l : List ℕ). get_or d i 0 ∷ l) (part_values n (suc i) d (omega arith))

-- at eight, as code reads it
pub eight : (d : List ℕ) (i : ℕ) → i + 8 ≤ length d
    → get_or d i 0
    ∷ get_or d (i + 1) 0
    ∷ get_or d (i + 2) 0
    ∷ get_or d (i + 3) 0
    ∷ get_or d (i + 4) 0
    ∷ get_or d (i + 5) 0
    ∷ get_or d (i + 6) 0
    ∷ get_or d (i + 7) 0
    ∷ []
    ≡ take 8 (drop i d)
eight d i h = simp towards_suc (sym (part_values 8 i d h))

-- ---- the same, with the list last: n elements of u from k on

abbrev pub window : ℕ → ℕ → List ℕ → List ℕ
window n k u = values_from (λ i. get_or u i 0) k n

pub window_take : (n k : ℕ) (u : List ℕ) → k + n ≤ length u → window n k u ≡ take n (drop k u)
window_take n k u h = sym (part_values n k u h)

-- a list of n elements, one by one
pub window_all : (n : ℕ) (u : List ℕ) → length u ≡ n → window n 0 u ≡ u
window_all zero [] e = refl
window_all zero (x ∷ u) e = absurd (omega arith)
window_all (suc n) [] e = absurd (omega arith)
window_all (suc n) (x ∷ u) e = ap (λ (l : List ℕ). x ∷ l) (shift (λ k. get_or (x ∷ u) k 0) 0 n ∙ window_all n u (omega arith))
