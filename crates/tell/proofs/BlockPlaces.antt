-- Blocks of a frame: where they stand, and loops that test each. Assumes nothing.
use borrow.Author.Tests.{ne_eqb}
use lib.Dec.{eqb}
use mathlib.Core.Path.{◌≡◌, refl, sym, ap, ◌∙◌}
use mathlib.Core.Bool.{Bool, true, false, ◌&&◌}
use mathlib.Core.List.{List, [], ◌∷◌, ◌++◌}
use Prim.Native.Nat.{ℕ, zero, suc, ◌+◌, ◌*◌, ◌≤◌, ◌<◌}
use native.Mathlib.Nat.{suc-mul, mul-le-mul_left, mul-le-mul_right}
use native.Mathlib.Omega.{arith}
use Rattle.frame.specs.Choose.{all_of, gather}
use Rattle.frame.proofs.AllOf.{all_none, all_more, all_fails}
use Rattle.print.specs.Quote.{visible, printable}
use Rattle.tell.specs.Meanings.{piece_at, pieces_of, lock_at, unlocked}

-- block i of count, of which one stands every `step` bytes from a place on, is within what holds them all
pub block_room : (place step count i : ℕ) {end : ℕ} → i < count → place + count * step ≤ end → place + i * step + step ≤ end
block_room place step count i h r =
    let g : suc i * step ≤ count * step = mul-le-mul_right step h in
    omega (arith, suc-mul i step)

-- there are no more blocks than bytes
pub block_few : (place step count : ℕ) {end : ℕ} → 1 ≤ step → place + count * step ≤ end → count ≤ end
block_few place step count h r =
    let g : count * 1 ≤ count * step = mul-le-mul_left count h in
    omega arith

-- ---- whether bytes show

print_append : (s t : List ℕ) → printable (s ++ t) ≡ (printable s && printable t)
print_append [] t = refl
print_append (b ∷ s) t = go (visible b) (print_append s t)
  where
    go : (v : Bool) → printable (s ++ t) ≡ (printable s && printable t) → (v && printable (s ++ t)) ≡ ((v && printable s) && printable t)
    go true e = e
    go false e = refl

pub print_gather : (n : ℕ) (g : ℕ → List ℕ) → printable (gather n g) ≡ all_of n (λ i. printable (g i))
unfolding gather all_of
print_gather zero g = refl
print_gather (suc n) g = rw (print_append, print_gather n g)

pub ruleset passing = (all_none, all_more, all_fails, print_gather)

-- ---- one that fails

module _ (place long count : ℕ) (f : List ℕ) {i : ℕ} (h : i < count) where
  pub shown_not : (gap : ℕ) (s : List ℕ) (b : Bool) → s ≡ piece_at place gap long f i → b ≡ printable s → b ≡ false → false ≡ printable (pieces_of place gap long count f)
  unfolding pieces_of
  shown_not gap s b e g n =
      let q : printable (piece_at place gap long f i) ≡ false = sym (ap printable e) ∙ sym g ∙ n in
      sym (print_gather count (piece_at place gap long f) ∙ all_fails count (λ (j : ℕ). printable (piece_at place gap long f j)) i h q)

  pub lock_not : (b : ℕ) → b ≡ lock_at place long f i → (b ≡ 0 → ⊥) → false ≡ unlocked place long count f
  unfolding unlocked
  lock_not b e n =
      let q : eqb (lock_at place long f i) 0 ≡ false = sym (ap (λ (x : ℕ). eqb x 0) e) ∙ ne_eqb b 0 n in
      sym (all_fails count (λ (j : ℕ). eqb (lock_at place long f j) 0) i h q)
