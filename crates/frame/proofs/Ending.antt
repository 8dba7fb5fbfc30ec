-- How a UID ends: a remainder by a power of two splits where the mask does, so the slot's four bits are the next four of a mask four bits longer.
-- Assumes nothing.
use mathlib.Core.Path.{◌≡◌, sym, subst, ap, ap₂, ◌∙◌}
use mathlib.Core.Logic.{◌↔◌}
use mathlib.Core.Bool.{false, ◌&&◌}
use mathlib.Core.List.{List}
use Prim.Native.Nat.{ℕ, ◌+◌, ◌*◌, ◌/◌, ◌%◌, ◌^◌, ◌≤◌, ◌<◌}
use native.Mathlib.Nat.{zero-add, zero-mul, one-mul, mod-lt, mod-eq_of_lt, div-eq_of_lt, div-add-mod', lt_of_lt_of_le}
use lib.Dec.{eqb}
use lib.Pow.{pow_pos, pow-lt, pow_mono, mod-pow-add, low, high}
use borrow.Author.Tests.{eqb-true, eq-eqb, ne_eqb}
use Rattle.frame.specs.Number.{num, part}
use Rattle.frame.specs.Ending.{ends_in, ends_in_slot, longer, bytes_for, mask_at}
use Rattle.frame.proofs.Bools.{bool_same, and_both}

-- a shift of one, at 64 bits
pub one_shl : (bits : ℕ) → bits < 64 → (1 * 2 ^ bits) % 2 ^ 64 ≡ 2 ^ bits
one_shl bits h = ap (λ (x : ℕ). x % 2 ^ 64) (one-mul (2 ^ bits)) ∙ mod-eq_of_lt (pow-lt h)

-- of a number of 64 bits the low ones are all where they are 64 or more, and none is above them
pub low_whole : (bits n : ℕ) → n < 2 ^ 64 → 64 ≤ bits → n ≡ n % 2 ^ bits
low_whole bits n h l = sym (mod-eq_of_lt (lt_of_lt_of_le h (pow_mono l)))

pub high_zeros : (bits n : ℕ) → n < 2 ^ 64 → 64 ≤ bits → 0 ≡ n / 2 ^ bits
high_zeros bits n h l = sym (div-eq_of_lt (lt_of_lt_of_le h (pow_mono l)))

-- nothing above the low bits: the number is below their power
pub high_zero : (n bits : ℕ) → n / 2 ^ bits ≡ 0 → n < 2 ^ bits
high_zero n bits e =
    let q = rw (e, zero-mul (2 ^ bits), zero-add (n % 2 ^ bits)) at (div-add-mod' n (2 ^ bits)) in
    subst (λ (x : ℕ). x < 2 ^ bits) q (mod-lt n (pow_pos bits))

-- the low w bits and the k bits above them, each by itself or both as one number
both_parts : (n lo hi k w : ℕ) → lo < 2 ^ w → (n % 2 ^ (k + w) ≡ hi * 2 ^ w + lo) ↔ ((n % 2 ^ w ≡ lo) × (n / 2 ^ w % 2 ^ k ≡ hi))
both_parts n lo hi k w h = (
  (λ e. let q : (n / 2 ^ w % 2 ^ k) * 2 ^ w + n % 2 ^ w ≡ hi * 2 ^ w + lo = sym (mod-pow-add n k w) ∙ e in (
    sym (low (n / 2 ^ w % 2 ^ k) w (mod-lt n (pow_pos w))) ∙ ap (λ (x : ℕ). x % 2 ^ w) q ∙ low hi w h,
    sym (high (n / 2 ^ w % 2 ^ k) w (mod-lt n (pow_pos w))) ∙ ap (λ (x : ℕ). x / 2 ^ w) q ∙ high hi w h,
  )),
  (λ p. mod-pow-add n k w ∙ ap₂ (λ (x y : ℕ). x * 2 ^ w + y) p.1 p.0),
)

-- a mask and its slot, as one number four bits longer
slot_longer : (n mask bits slot : ℕ) → mask < 2 ^ bits → (n % 2 ^ (4 + bits) ≡ slot * 2 ^ bits + mask) ↔ ((n % 2 ^ bits ≡ mask) × (n / 2 ^ bits % 16 ≡ slot))
slot_longer n mask bits slot h = both_parts n mask slot 4 bits h

ends_parts : (n lo hi k w : ℕ) → lo < 2 ^ w → eqb (n % 2 ^ (k + w)) (hi * 2 ^ w + lo) ≡ (eqb (n % 2 ^ w) lo && eqb (n / 2 ^ w % 2 ^ k) hi)
ends_parts n lo hi k w h =
    let e = both_parts n lo hi k w h in
    bool_same (eqb (n % 2 ^ (k + w)) (hi * 2 ^ w + lo)) (eqb (n % 2 ^ w) lo && eqb (n / 2 ^ w % 2 ^ k) hi)
    (λ q.
    let p = e.0 (eqb-true (n % 2 ^ (k + w)) (hi * 2 ^ w + lo) q) in
    ap₂ ◌&&◌ (eq-eqb (n % 2 ^ w) lo p.0) (eq-eqb (n / 2 ^ w % 2 ^ k) hi p.1))
    (λ q.
    let p = and_both (eqb (n % 2 ^ w) lo) (eqb (n / 2 ^ w % 2 ^ k) hi) q in
    eq-eqb (n % 2 ^ (k + w)) (hi * 2 ^ w + lo) (e.1 (eqb-true (n % 2 ^ w) lo p.0, eqb-true (n / 2 ^ w % 2 ^ k) hi p.1)))

-- the walk's law: to end in the longer mask is to end in the mask and to answer in the slot
pub ends_longer : (u : List ℕ) (mask bits slot : ℕ) → mask < 2 ^ bits → ends_in u (longer mask bits slot) (4 + bits) ≡ ends_in_slot u mask bits slot
unfolding ends_in ends_in_slot
ends_longer u mask bits slot h = ends_parts (num u) mask slot 4 bits h

-- to end in a mask is to end in its whole bytes, and above them in its odd bits; a bit of the mask above its length fits no UID
pub ends_whole : (u : List ℕ) (mask odd whole : ℕ)
    → ends_in u mask (odd + whole) ≡ (eqb (num u % 2 ^ whole) (mask % 2 ^ whole) && eqb (num u / 2 ^ whole % 2 ^ odd) (mask / 2 ^ whole))
unfolding ends_in
ends_whole u mask odd whole =
    ap (eqb (num u % 2 ^ (odd + whole))) (sym (div-add-mod' mask (2 ^ whole)))
    ∙ ends_parts (num u) (mask % 2 ^ whole) (mask / 2 ^ whole) odd whole (mod-lt mask (pow_pos whole))

-- the two ways out of `ends_in` where there are whole bytes
pub odd_bits : (u : List ℕ) (mask odd whole : ℕ) {bits n l m h o g : ℕ} → odd + whole ≡ bits → n ≡ num u → l ≡ n % 2 ^ whole → m ≡ mask % 2 ^ whole
    → l ≡ m → h ≡ n / 2 ^ whole → o ≡ h % 2 ^ odd → g ≡ mask / 2 ^ whole → eqb o g ≡ ends_in u mask bits
odd_bits u mask odd whole q a b d y e f z = rw (← q, ends_whole u mask odd whole, z, f, e, ← a, ← b, ← d, eq-eqb _ _ y)

pub whole_bytes : (u : List ℕ) (mask odd whole : ℕ) {bits n l m : ℕ} → odd + whole ≡ bits → n ≡ num u → l ≡ n % 2 ^ whole → m ≡ mask % 2 ^ whole
    → (l ≡ m → ⊥) → false ≡ ends_in u mask bits
whole_bytes u mask odd whole q a b d y = rw (← q, ends_whole u mask odd whole, ← a, ← b, ← d, ne_eqb _ _ y)

pub mask_lt : (s : List ℕ) (at bits : ℕ) → mask_at s at bits < 2 ^ bits
unfolding mask_at
mask_lt s at bits = mod-lt (num (part at (bytes_for bits) s)) (pow_pos bits)
