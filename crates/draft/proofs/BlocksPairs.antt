-- A step along a run of pairs, and a buffer of zeros. Assumes nothing.
use mathlib.Core.Path.{◌≡◌, refl, ap, ◌∙◌}
use mathlib.Core.Bool.{true, false}
use mathlib.Core.List.{List, ◌∷◌}
use Prim.Native.Nat.{ℕ, zero, suc, ◌+◌, ◌-◌, ◌≤◌, ◌<◌}
use native.Mathlib.Omega.{arith}
use native.Mathlib.Nat.{sub-zero}
use borrow.Author.Tests.{eq-eqb, ne_eqb}
use lib.ListN.{get_or, take, replicate}
use Rattle.text.specs.Runs.{is_gap}
use Rattle.verbs.specs.Data.{place_of}
use Rattle.draft.specs.Blocks.{pairs_left, pair_at}

-- ---- of so many steps one is taken: a gap is passed, or the pair is found, or a pair is passed

step : (all i : ℕ) → i < all → all - i ≡ suc (all - (i + 1))
step all i h = omega arith

pub pair_gap : (all i : ℕ) (s : List ℕ) (at n : ℕ) → i < all → is_gap (get_or s at 0) ≡ true
    → pair_at (all - (i + 1)) s (place_of at 1) n ≡ pair_at (all - i) s at n
unfolding pair_at
pair_gap all i s at n h g = rw (step all i h, g)

pub pair_here : (all i : ℕ) (s : List ℕ) (at n : ℕ) → i < all → is_gap (get_or s at 0) ≡ false → n ≡ 0 → pair_at (all - i) s at n ≡ at
unfolding pair_at
pair_here all i s at n h g z = rw (step all i h, g, eq-eqb n 0 z)

pub pair_on : (all i : ℕ) (s : List ℕ) (at n : ℕ) → i < all → is_gap (get_or s at 0) ≡ false → (n ≡ 0 → ⊥)
    → pair_at (all - (i + 1)) s (place_of at 2) (pairs_left (get_or s (place_of at 1) 0) n) ≡ pair_at (all - i) s at n
unfolding pair_at
pair_on all i s at n h g z = rw (step all i h, g, ne_eqb n 0 z)

pub pair_none : (all i : ℕ) (s : List ℕ) (at n : ℕ) → all ≤ i → pair_at (all - i) s at n ≡ at
unfolding pair_at
pair_none all i s at n h = let e : all - i ≡ 0 = omega arith in rw e

pub ruleset steps = (pair_gap, pair_here, pair_on, pair_none)

-- ---- the front of zeros are zeros

abbrev zeros : ℕ → List ℕ
zeros n = replicate n 0

taken : (n room : ℕ) → n ≤ room → take n (zeros room) ≡ zeros n
taken zero room h = refl
taken (suc n) zero h = absurd (omega arith)
taken (suc n) (suc room) h = ap (λ (l : List ℕ). 0 ∷ l) (taken n room (omega arith))

pub zeros_front : (n room : ℕ) → n ≤ room → take (n - 0) (zeros room) ≡ zeros n
zeros_front n room h = ap (λ (k : ℕ). take k (zeros room)) (sub-zero n) ∙ taken n room h
