-- The laws of the check sum. The register's step is linear in exclusive or and forgets nothing, so eight or sixteen bits at once are a sum of shifts,
-- and two bytes at once are one number of sixteen bits.
-- Assumes nothing.
use mathlib.Core.Path.{◌≡◌, refl, sym, subst, ap, ap₂, ◌∙◌}
use mathlib.Core.Bool.{Bool, true, false}
use mathlib.Core.List.{List, [], ◌∷◌, ◌++◌}
use Prim.Native.Nat.{ℕ, zero, suc, ◌+◌, ◌*◌, ◌/◌, ◌%◌, ◌^◌, ◌≤◌, ◌<◌}
use native.Mathlib.Nat.{mod-lt, zero-lt-suc, not-suc-le-zero, le_of_suc-le-suc, mul-one, add_comm, add-zero}
use native.Mathlib.Numerals.{add-one}
use native.Mathlib.Omega.{arith}
use lib.Dec.{lit<}
use lib.ListN.{length, take, drop, get_or}
use lib.Seq.{take-suc, take_all, get_or-take, get_or-drop}
use lib.Bits.{bit_xor, differ, xor_zero_r, xor_lt, xor_self, xor_comm, xor_shifted, shifted_half, shifted_even}
use Rattle.std.specs.Simd.{first_chunks}
use Rattle.frame.specs.Number.{Bytes}
use Rattle.frame.specs.CheckSum.{polynomial, crc_bit, crc_bits, crc_byte, crc_run, crc_end, crc_with}
use Rattle.frame.proofs.Lists.{drop_head}
use Rattle.frame.proofs.Linear.{Linear, itself, plus, after, down, low, up, by_powers}
use Rattle.frame.proofs.Xor.{xor_half, xor_odd, xor_swap, xor_assoc, xor_again, xor_eq, xor_ones}

-- ---- the step is linear

-- the polynomial, taken or not
poly_xor : (x y : ℕ) → x < 2 → y < 2 → differ x y * polynomial ≡ bit_xor (x * polynomial) (y * polynomial)
poly_xor zero zero hx hy = refl
poly_xor zero (suc zero) hx hy = refl
poly_xor zero (suc (suc y)) hx hy = absurd (not-suc-le-zero (le_of_suc-le-suc (le_of_suc-le-suc hy)))
poly_xor (suc zero) zero hx hy = refl
poly_xor (suc zero) (suc zero) hx hy = refl
poly_xor (suc zero) (suc (suc y)) hx hy = absurd (not-suc-le-zero (le_of_suc-le-suc (le_of_suc-le-suc hy)))
poly_xor (suc (suc x)) y hx hy = absurd (not-suc-le-zero (le_of_suc-le-suc (le_of_suc-le-suc hx)))

pub bit_of_xor : (a b : ℕ) → crc_bit (bit_xor a b) ≡ bit_xor (crc_bit a) (crc_bit b)
unfolding crc_bit
bit_of_xor a b =
    ap₂ bit_xor (xor_half a b)
    (ap (λ (x : ℕ). x * polynomial) (xor_odd a b) ∙ poly_xor (a % 2) (b % 2) (mod-lt a (zero-lt-suc 1)) (mod-lt b (zero-lt-suc 1)))
    ∙ xor_swap (a / 2) (b / 2) (a % 2 * polynomial) (b % 2 * polynomial)

pub bits_xor : (n a b : ℕ) → crc_bits n (bit_xor a b) ≡ bit_xor (crc_bits n a) (crc_bits n b)
unfolding crc_bits
bits_xor zero a b = refl
bits_xor (suc n) a b = ap (crc_bits n) (bit_of_xor a b) ∙ bits_xor n (crc_bit a) (crc_bit b)

-- zeros at the low end fall out, and nothing is added
pub bits_shifted : (n h : ℕ) → crc_bits n (h * 2 ^ n) ≡ h
unfolding crc_bits crc_bit
bits_shifted zero h = simp mul-one
bits_shifted (suc n) h =
    ap (crc_bits n)
    (ap₂ bit_xor (shifted_half h n) (ap (λ (x : ℕ). x * polynomial) (shifted_even h n)) ∙ xor_zero_r (h * 2 ^ n))
    ∙ bits_shifted n h

-- ---- the register stays below 2 ^ 16

bit_lt : (r : ℕ) → r < 2 ^ 16 → crc_bit r < 2 ^ 16
unfolding crc_bit
bit_lt r h = xor_lt 16 (r / 2) (r % 2 * polynomial) (omega arith) (omega arith)

bits_lt : (n r : ℕ) → r < 2 ^ 16 → crc_bits n r < 2 ^ 16
unfolding crc_bits
bits_lt zero r h = h
bits_lt (suc n) r h = bits_lt n (crc_bit r) (bit_lt r h)

-- ---- eight bits and sixteen bits at once, as a sum of shifts

-- up by k, in the 32 bits that hold the register
abbrev up32 : ℕ → ℕ → ℕ
up32 k x = x * 2 ^ k % 2 ^ 32

-- the bits that leave, of eight and of sixteen: those of x, and what bits that left before turned over in them
abbrev eight : ℕ → ℕ
eight x = bit_xor (up32 8 x) (up32 12 x) % 2 ^ 16

abbrev sixteen : ℕ → ℕ
sixteen x = bit_xor (bit_xor (bit_xor (bit_xor x (up32 4 x)) (up32 8 x)) (up32 11 x)) (up32 12 x) % 2 ^ 16

-- what they leave in the register: the polynomial's three terms
abbrev added : ℕ → ℕ
added y = bit_xor (bit_xor y (y / 2 ^ 5)) (y / 2 ^ 12)

added_linear : {f : ℕ → ℕ} → Linear f → Linear (λ (x : ℕ). added (f x))
added_linear p = plus (plus p (after (down 5) p)) (after (down 12) p)

bits_linear : (n : ℕ) → Linear (crc_bits n)
bits_linear n = record { over = bits_xor n }

eight_sum : (x : ℕ) → x < 2 ^ 16 → bit_xor (x / 2 ^ 8) (added (eight x)) ≡ crc_bits 8 x
unfolding crc_bits crc_bit
eight_sum =
    by_powers _ (crc_bits 8) (plus (down 8) (added_linear (after (low 16) (plus (up 8 32) (up 12 32))))) (bits_linear 8) 16 refl

sixteen_sum : (x : ℕ) → x < 2 ^ 16 → added (sixteen x) ≡ crc_bits 16 x
unfolding crc_bits crc_bit
sixteen_sum =
    let sum = plus (plus (plus (plus itself (up 4 32)) (up 8 32)) (up 11 32)) (up 12 32) in
    by_powers _ (crc_bits 16) (added_linear (after (low 16) sum)) (bits_linear 16) 16 refl

-- with that, what code computes is the bits' rule, and stays in the register
pub eight_shifts : (x : ℕ) → x < 2 ^ 16 → (bit_xor (x / 2 ^ 8) (added (eight x)) ≡ crc_bits 8 x) × (bit_xor (x / 2 ^ 8) (added (eight x)) < 2 ^ 16)
eight_shifts x h = let e = eight_sum x h in (e, subst (λ (v : ℕ). v < 2 ^ 16) (sym e) (bits_lt 8 x h))

pub sixteen_shifts : (x : ℕ) → x < 2 ^ 16 → (added (sixteen x) ≡ crc_bits 16 x) × (added (sixteen x) < 2 ^ 16)
sixteen_shifts x h = let e = sixteen_sum x h in (e, subst (λ (v : ℕ). v < 2 ^ 16) (sym e) (bits_lt 16 x h))

-- ---- the register over the bytes of a list

pub run_append : (r : ℕ) (s t : List ℕ) → crc_run r (s ++ t) ≡ crc_run (crc_run r s) t
unfolding crc_run
run_append r [] t = refl
run_append r (b ∷ s) t = run_append (crc_byte r b) s t

-- for a loop: the register r over i bytes, and o after one byte more
pub run_more : {r o : ℕ} (start : ℕ) (s : List ℕ) (i : ℕ) → r ≡ crc_run start (take i s) → o ≡ crc_byte r (get_or s i 0) → i < length s
    → o ≡ crc_run start (take (i + 1) s)
unfolding crc_run
run_more {r} {o} start s i e f h =
    f
    ∙ ap (λ (x : ℕ). crc_byte x (get_or s i 0)) e
    ∙ sym (rw (add-one, take-suc s i 0) (run_append start (take i s) (get_or s i 0 ∷ [])))

-- and at the loop's end
pub run_all : {r : ℕ} (start : ℕ) (s : List ℕ) (i : ℕ) → r ≡ crc_run start (take i s) → length s ≤ i → r ≡ crc_run start s
run_all start s i e h = e ∙ ap (crc_run start) (take_all i s h)

pub byte_lt : (r b : ℕ) → r < 2 ^ 16 → b < 256 → crc_byte r b < 2 ^ 16
unfolding crc_byte
byte_lt r b hr hb = bits_lt 8 (bit_xor r b) (xor_lt 16 r b hr (omega arith))

pub run_lt : (r : ℕ) (s : List ℕ) → r < 2 ^ 16 → Bytes s → crc_run r s < 2 ^ 16
unfolding crc_run
run_lt r [] h bs = h
run_lt r (b ∷ s) h bs = run_lt (crc_byte r b) s (byte_lt r b h (bs 0)) (λ i. bs (suc i))

pub end_lt : (inv : Bool) (r : ℕ) → r < 2 ^ 16 → crc_end inv r < 2 ^ 16
end_lt true r h = omega arith
end_lt false r h = h

pub sum_lt : (start : ℕ) (inv : Bool) (s : List ℕ) → start < 2 ^ 16 → Bytes s → crc_with start inv s < 2 ^ 16
unfolding crc_with
sum_lt start inv s h bs = end_lt inv (crc_run start s) (run_lt start s h bs)

-- inverted, it is so of any list
pub sum_inverted_lt : (start : ℕ) (s : List ℕ) → crc_with start true s < 2 ^ 16
unfolding crc_with
sum_inverted_lt start s = omega arith

-- ---- the step forgets nothing

bit_none : (v : ℕ) → v < 2 ^ 16 → crc_bit v ≡ 0 → v ≡ 0
unfolding crc_bit
bit_none v h e = let q : v / 2 ≡ v % 2 * polynomial = xor_eq (v / 2) (v % 2 * polynomial) e in omega arith

bits_none : (n v : ℕ) → v < 2 ^ 16 → crc_bits n v ≡ 0 → v ≡ 0
unfolding crc_bits
bits_none zero v h e = e
bits_none (suc n) v h e = bit_none v h (bits_none n (crc_bit v) (bit_lt v h) e)

pub bits_inj : (n v w : ℕ) → v < 2 ^ 16 → w < 2 ^ 16 → crc_bits n v ≡ crc_bits n w → v ≡ w
bits_inj n v w hv hw e =
    xor_eq v w
    (bits_none n (bit_xor v w) (xor_lt 16 v w hv hw)
    (bits_xor n v w ∙ ap (λ (x : ℕ). bit_xor x (crc_bits n w)) e ∙ xor_self (crc_bits n w)))

-- ---- two bytes more are one number of sixteen bits, added at once

pub two_bytes : (r lo hi : ℕ) → lo < 256 → crc_run r (lo ∷ hi ∷ []) ≡ crc_bits 16 (bit_xor r (lo + hi * 256))
unfolding crc_run crc_byte crc_bits
two_bytes r lo hi h =
    ap (crc_bits 8)
    (sym
    (ap (crc_bits 8)
    (ap (bit_xor r) (add_comm lo (hi * 256) ∙ sym (xor_shifted hi 8 lo h) ∙ xor_comm (hi * 256) lo) ∙ sym (xor_assoc r lo (hi * 256)))
    ∙ bits_xor 8 (bit_xor r lo) (hi * 256)
    ∙ ap (bit_xor (crc_bits 8 (bit_xor r lo))) (bits_shifted 8 hi)))

-- for a loop by pairs of bytes: the register r over k pairs, and o after one pair more
-- the slice as pairs of bytes: pair k has bytes 2 k and 2 k + 1
pair_at : (n k j : ℕ) (s : List ℕ) → k < n → j < 2 → get_or (get_or (first_chunks 2 n s) k []) j 0 ≡ get_or s (2 * k + j) 0
pair_at zero k j s h l = absurd (omega arith)
pair_at (suc n) zero j s h l = get_or-take 2 s j 0 l ∙ ap (λ (i : ℕ). get_or s i 0) (omega arith)
pair_at (suc n) (suc k) j s h l =
    pair_at n k j (drop 2 s) (omega arith) l ∙ get_or-drop 2 s (2 * k + j) 0 ∙ ap (λ (i : ℕ). get_or s i 0) (omega arith)

-- one more pair ..
pub run_pair : {r o : ℕ} (start : ℕ) (s : List ℕ) {pairs : List (List ℕ)} (k : ℕ) → Bytes s → pairs ≡ first_chunks 2 (length s / 2) s
    → r ≡ crc_run start (take (2 * k) s)
    → o ≡ crc_bits 16 (bit_xor r (get_or (get_or pairs k []) 0 0 + get_or (get_or pairs k []) 1 0 * 256))
    → k < length s / 2
    → o ≡ crc_run start (take (2 * (k + 1)) s)
unfolding crc_run
run_pair {r} {o} start s {pairs} k bs c e f h =
    let i = 2 * k in
    let n : 2 * (k + 1) ≡ i + 1 + 1 = omega arith in
    let lo : get_or (get_or pairs k []) 0 0 ≡ get_or s i 0 = rw c (simp add-zero at (pair_at (length s / 2) k 0 s h (omega arith))) in
    let hi : get_or (get_or pairs k []) 1 0 ≡ get_or s (i + 1) 0 = rw c (pair_at (length s / 2) k 1 s h (omega arith)) in
    rw n
    (rw (lo, hi) at f
    ∙ sym (two_bytes r (get_or s i 0) (get_or s (i + 1) 0) (bs i))
    ∙ run_more start s (i + 1) (run_more start s i e refl (omega arith)) refl (omega arith))

-- .. and at the end no byte is left, or one
pub run_pairs : {r : ℕ} (start : ℕ) (s : List ℕ) (k : ℕ) → r ≡ crc_run start (take (2 * k) s) → length s / 2 ≤ k → length s % 2 ≡ 0 → r ≡ crc_run start s
run_pairs start s k e h m = run_all start s (2 * k) e (omega arith)

pub run_last : {r o : ℕ} (start : ℕ) (s : List ℕ) {rest : List ℕ} (k : ℕ) → rest ≡ drop (length s / 2 * 2) s → k ≤ length s / 2
    → r ≡ crc_run start (take (2 * k) s) → length s / 2 ≤ k → 1 ≤ length s % 2 → o ≡ crc_byte r (get_or rest 0 0) → o ≡ crc_run start s
run_last {r} {o} start s {rest} k d l e h m f =
    let n : length s / 2 * 2 ≡ 2 * k = omega arith in
    let b : get_or rest 0 0 ≡ get_or s (2 * k) 0 = rw (d, n) (drop_head (2 * k) s) in
    run_all start s (2 * k + 1) (run_more start s (2 * k) e (rw b at f) (omega arith)) (omega arith)

-- what inverting adds
abbrev flip : Bool → ℕ
flip true = 0xFFFF
flip false = 0

flip_lt : (inv : Bool) → flip inv < 2 ^ 16
flip_lt true = lit< tt
flip_lt false = lit< tt

end_xor : (inv : Bool) (r : ℕ) → r < 2 ^ 16 → crc_end inv r ≡ bit_xor r (flip inv)
end_xor true r h = sym (xor_ones 16 r h)
end_xor false r h = sym (xor_zero_r r)

-- what a frame with its check sum run through leaves in the register
abbrev pub residue : Bool → ℕ
residue true = 0xF0B8
residue false = 0

leaves : (inv : Bool) → crc_bits 16 (flip inv) ≡ residue inv
unfolding crc_bits crc_bit
leaves true = refl
leaves false = refl

-- the check sum behind a run leaves the residue ..
pub sum_leaves : (inv : Bool) (r lo hi : ℕ) → r < 2 ^ 16 → lo < 256 → lo + hi * 256 ≡ crc_end inv r → crc_run r (lo ∷ hi ∷ []) ≡ residue inv
sum_leaves inv r lo hi hr hl e =
    two_bytes r lo hi hl
    ∙ ap (λ (x : ℕ). crc_bits 16 (bit_xor r x)) (e ∙ end_xor inv r hr)
    ∙ ap (crc_bits 16) (xor_again r (flip inv))
    ∙ leaves inv

-- .. and nothing else does
pub sum_only : (inv : Bool) (r lo hi : ℕ) → r < 2 ^ 16 → lo < 256 → hi < 256 → crc_run r (lo ∷ hi ∷ []) ≡ residue inv
    → lo + hi * 256 ≡ crc_end inv r
sum_only inv r lo hi hr hl hh e =
    sym (xor_again r (lo + hi * 256))
    ∙ ap (bit_xor r)
    (bits_inj 16 (bit_xor r (lo + hi * 256)) (flip inv) (xor_lt 16 r (lo + hi * 256) hr (omega arith)) (flip_lt inv)
    (sym (two_bytes r lo hi hl) ∙ e ∙ sym (leaves inv)))
    ∙ sym (end_xor inv r hr)
