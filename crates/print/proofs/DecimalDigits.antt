-- The digits that io lays are the number's text, 20 at most for 64 bits; and the text read as a number is the number. Assumes nothing.
use mathlib.Core.Path.{◌≡◌, refl, ap, sym, ◌∙◌}
use mathlib.Core.Logic.{⊎_elim}
use mathlib.Core.List.{List, [], ◌∷◌, ◌++◌}
use Prim.Native.Nat.{ℕ, zero, suc, ◌+◌, ◌-◌, ◌*◌, ◌/◌, ◌%◌, ◌^◌, ◌≤◌, ◌<◌}
use native.Mathlib.Nat.{sub-zero, pow-suc, one-le-pow}
use native.Mathlib.Omega.{arith}
use borrow.Author.Tests.{lt-ltb, le-ltb}
use lib.ListN.{length, take, length-append}
use Rattle.io.specs.Digits.{hex_digit_ascii, last_digits, IsDigitCount}
use Rattle.frame.proofs.Bools.{below_or_not}
use Rattle.print.specs.Hex.{digit_of}
use Rattle.print.specs.Decimal.{decimal_to, decimal_text, decimal_on, decimal_value}

-- ---- one digit, and more than one

one_digit : (k n : ℕ) → n < 10 → decimal_to k n ≡ digit_of n ∷ []
one_digit zero n h = refl
one_digit (suc k) n h = rw (lt-ltb n 10 h) refl

more_digits : (k n : ℕ) → 10 ≤ n → decimal_to (suc k) n ≡ decimal_to k (n / 10) ++ (digit_of (n % 10) ∷ [])
more_digits k n h = rw (le-ltb n 10 h) refl

-- ---- as io has them

glyph_digit : (d : ℕ) → d < 10 → hex_digit_ascii d ≡ digit_of d
unfolding digit_of
glyph_digit d h = rw (lt-ltb d 10 h) refl

-- two digits or more
high_enough : (r n : ℕ) → IsDigitCount 10 1 n (suc (suc r)) → 10 ^ r * 10 ≤ n
high_enough r n f =
    let s : suc (suc r) - 1 ≡ suc r = omega arith in
    let g : 10 ^ suc r ≤ n = rw s at (f.2 (omega arith)) in
    rw pow-suc at g

digits_to : (k r n : ℕ) → n ≤ k → IsDigitCount 10 1 n r → last_digits 10 r n ≡ decimal_to k n
digits_to k zero n h f = absurd (omega arith)
digits_to k (suc zero) n h f =
    let l : n < 10 = f.1 in
    let e : n % 10 ≡ n = omega arith in
    ap (λ (d : ℕ). hex_digit_ascii d ∷ []) e ∙ ap (λ (c : ℕ). c ∷ []) (glyph_digit n l) ∙ sym (one_digit k n l)
digits_to zero (suc (suc r)) n h f =
    let g = high_enough r n f in
    let o : 1 ≤ 10 ^ r = one-le-pow r 10 (omega arith) in
    absurd (omega arith)
digits_to (suc k) (suc (suc r)) n h f =
    let q : 10 ^ suc (suc r) ≡ 10 ^ suc r * 10 = pow-suc 10 (suc r) in
    let o : 1 ≤ 10 ^ r = one-le-pow r 10 (omega arith) in
    let g = high_enough r n f in
    let d : n % 10 < 10 = omega arith in
    let s : suc r - 1 ≡ r = omega arith in
    let v : n < 10 ^ suc (suc r) = f.1 in
    let w : 10 ^ (suc r - 1) ≤ n / 10 = rw s (omega arith) in
    ap (λ (s : List ℕ). s ++ (hex_digit_ascii (n % 10) ∷ [])) (digits_to k (suc r) (n / 10) (omega arith) (omega arith, omega arith, λ l. w))
    ∙ ap (λ (c : ℕ). decimal_to k (n / 10) ++ (c ∷ [])) (glyph_digit (n % 10) d)
    ∙ sym (more_digits k n (omega arith))

digits_decimal : (r n : ℕ) → IsDigitCount 10 1 n r → last_digits 10 r n ≡ decimal_text n
unfolding decimal_text
digits_decimal r n f = digits_to n r n (omega arith) f

-- ---- how many they are

pub short_to : (k j n : ℕ) → n < 10 ^ suc j → length (decimal_to k n) ≤ suc j
short_to zero j n h = omega arith
short_to (suc k) j n h = ⊎_elim (λ l. rw (one_digit (suc k) n l) (omega arith)) (by j (λ j. short_to k j (n / 10)) h) (below_or_not n 10)
  where
    by : (j : ℕ) → ((j : ℕ) → n / 10 < 10 ^ suc j → length (decimal_to k (n / 10)) ≤ suc j) → n < 10 ^ suc j → 10 ≤ n
        → length (decimal_to (suc k) n) ≤ suc j
    by zero f h l = absurd (omega arith)
    by (suc j) f h l =
        let q : 10 ^ suc (suc j) ≡ 10 ^ suc j * 10 = pow-suc 10 (suc j) in
        let i = f j (omega arith) in
        rw (more_digits k n l, length-append) (omega arith)

pub decimal_short : (n : ℕ) → n < 2 ^ 64 → length (decimal_text n) ≤ 20
unfolding decimal_text
decimal_short n h = short_to n 19 n (omega arith)

-- io's answer: the first r bytes of its array, as they are lent
pub is_decimal : (r n : ℕ) (text : List ℕ) → IsDigitCount 10 1 n r × (take r text ≡ last_digits 10 r n) → take (r - 0) text ≡ decimal_text n
is_decimal r n text f = ap (λ (k : ℕ). take k text) (sub-zero r) ∙ f.1 ∙ digits_decimal r n f.0

-- ---- read back

on_append : (n : ℕ) (s t : List ℕ) → decimal_on n (s ++ t) ≡ decimal_on (decimal_on n s) t
on_append n [] t = refl
on_append n (c ∷ s) t = on_append (n * 10 + (c - 48)) s t

value_one : (a n : ℕ) → n < 10 → decimal_on a (digit_of n ∷ []) ≡ a * 10 + n
unfolding digit_of
value_one a n h = rw (lt-ltb n 10 h) (omega arith)

value_to : (k n : ℕ) → n ≤ k → decimal_on 0 (decimal_to k n) ≡ n
value_to zero n h = value_one 0 n (omega arith) ∙ omega arith
value_to (suc k) n h =
    ⊎_elim
    (λ l. ap (decimal_on 0) (one_digit (suc k) n l) ∙ value_one 0 n l ∙ omega arith)
    (λ l.
    let i = value_to k (n / 10) (omega arith) in
    ap (decimal_on 0) (more_digits k n l)
    ∙ on_append 0 (decimal_to k (n / 10)) (digit_of (n % 10) ∷ [])
    ∙ value_one (decimal_on 0 (decimal_to k (n / 10))) (n % 10) (omega arith)
    ∙ omega arith)
    (below_or_not n 10)

pub decimal_has_value : (n : ℕ) → decimal_value (decimal_text n) ≡ n
unfolding decimal_text decimal_value
decimal_has_value n = value_to n n (omega arith)
