-- Functions that go over exclusive or. A number is the sum of its bits, so two such functions that agree at each power of two agree; shifts and
-- remainders by powers of two are such, and so are their sums.
-- Assumes nothing.
use mathlib.Core.Path.{◌≡◌, refl, sym, ap, ap₂, ◌∙◌}
use mathlib.Core.List.{List}
use Prim.Native.Nat.{ℕ, zero, suc, ◌*◌, ◌/◌, ◌%◌, ◌^◌, ◌<◌}
use native.Mathlib.Nat.{mod-lt, add-zero, zero-mul, one-mul}
use native.Mathlib.Numerals.{one-add}
use native.Mathlib.Omega.{arith}
use lib.ListN.{get_or}
use lib.Pow.{pow_pos, split, shr_lt}
use lib.Bits.{bit_xor, xor_self, xor_shifted, xor_block, xor_shr, xor_mod}
use Rattle.frame.proofs.Lists.{values_from, value_at}
use Rattle.frame.proofs.Xor.{xor_swap}

pub record Linear (f : ℕ → ℕ) : Type 0 where
  pub over : (a b : ℕ) → f (bit_xor a b) ≡ bit_xor (f a) (f b)

-- ---- what is linear

pub itself : Linear (λ (x : ℕ). x)
itself = record { over = λ a b. refl }

pub plus : {f g : ℕ → ℕ} → Linear f → Linear g → Linear (λ (x : ℕ). bit_xor (f x) (g x))
plus {f} {g} p q = record { over = λ a b. ap₂ bit_xor (p.over a b) (q.over a b) ∙ xor_swap (f a) (f b) (g a) (g b) }

pub after : {f g : ℕ → ℕ} → Linear f → Linear g → Linear (λ (x : ℕ). f (g x))
after {f} {g} p q = record { over = λ a b. ap f (q.over a b) ∙ p.over (g a) (g b) }

pub down : (k : ℕ) → Linear (λ (x : ℕ). x / 2 ^ k)
down k = record { over = λ a b. xor_shr a b k }

pub low : (k : ℕ) → Linear (λ (x : ℕ). x % 2 ^ k)
low k = record { over = λ a b. xor_mod a b k }

-- up, in a register of w bits
pub up : (k w : ℕ) → Linear (λ (x : ℕ). x * 2 ^ k % 2 ^ w)
up k w =
    record {
      over = λ a b.
          ap (λ (x : ℕ). x % 2 ^ w) (sym (simp add-zero at (xor_block k a b 0 0 (pow_pos k) (pow_pos k)))) ∙ xor_mod (a * 2 ^ k) (b * 2 ^ k) w;
    }

-- ---- by the powers of two

none : (f : ℕ → ℕ) → Linear f → f 0 ≡ 0
none f l = l.over 0 0 ∙ xor_self (f 0)

-- the highest bit, there or not
top : (f g : ℕ → ℕ) → Linear f → Linear g → (t p : ℕ) → t < 2 → f p ≡ g p → f (t * p) ≡ g (t * p)
top f g lf lg zero p h e = simp zero-mul (none f lf ∙ sym (none g lg))
top f g lf lg (suc zero) p h e = simp one-mul e
top f g lf lg (suc (suc t)) p h e = absurd (omega arith)

agree : (f g : ℕ → ℕ) → Linear f → Linear g → (n : ℕ) → ((k : ℕ) → k < n → f (2 ^ k) ≡ g (2 ^ k)) → (z : ℕ) → z < 2 ^ n → f z ≡ g z
agree f g lf lg zero h zero l = none f lf ∙ sym (none g lg)
agree f g lf lg zero h (suc z) l = absurd (omega arith)
agree f g lf lg (suc n) h z l =
    let t = z / 2 ^ n in
    let r = z % 2 ^ n in
    let m : r < 2 ^ n = mod-lt z (pow_pos n) in
    let e : z ≡ bit_xor (t * 2 ^ n) r = sym (split z n) ∙ sym (xor_shifted t n r m) in
    ap f e
    ∙ lf.over (t * 2 ^ n) r
    ∙ ap₂ bit_xor (top f g lf lg t (2 ^ n) (shr_lt 1 n (rw one-add l)) (h n (omega arith))) (agree f g lf lg n (λ k i. h k (omega arith)) r m)
    ∙ sym (lg.over (t * 2 ^ n) r)
    ∙ ap g (sym e)

-- where n values at powers of two are the same list, as computing shows
pub by_powers : (f g : ℕ → ℕ) → Linear f → Linear g → (n : ℕ) → values_from (λ (k : ℕ). f (2 ^ k)) 0 n ≡ values_from (λ (k : ℕ). g (2 ^ k)) 0 n
    → (z : ℕ) → z < 2 ^ n → f z ≡ g z
by_powers f g lf lg n e =
    agree f g lf lg n
    (λ k h. sym (value_at (λ (j : ℕ). f (2 ^ j)) n k h) ∙ ap (λ (l : List ℕ). get_or l k 0) e ∙ value_at (λ (j : ℕ). g (2 ^ j)) n k h)
