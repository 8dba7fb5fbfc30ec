-- A number below 10 ^ 9 is read back as it is written: every byte of its text is a digit. Assumes nothing.
use mathlib.Core.Path.{◌≡◌, refl, ap, sym, ◌∙◌}
use mathlib.Core.List.{List, [], ◌∷◌}
use Prim.Native.Nat.{ℕ, zero, suc, ◌+◌, ◌/◌, ◌%◌, ◌^◌, ◌≤◌, ◌<◌}
use native.Mathlib.Omega.{arith}
use borrow.Author.Tests.{eq-eqb, ne_eqb, lt-ltb, le-ltb, le-leb, ltb-true}
use lib.Dec.{ltb}
use lib.ListN.{length, length-append}
use Rattle.frame.proofs.Bools.{if_either, if_both}
use Rattle.print.proofs.DecimalDigits.{short_to, decimal_has_value}
use Rattle.text.proofs.WordsLead.{lead_append}
use Rattle.print.specs.Decimal.{decimal_to, decimal_text}
use Rattle.print.specs.Hex.{digit_of}
use Rattle.text.specs.Words.{lead}
use Rattle.text.specs.Count.{is_decimal, decimal_in, count_in}
use Rattle.std.specs.Prelude.{Some}

digit_decimal : (n : ℕ) → n < 10 → lead is_decimal (digit_of n ∷ []) ≡ 1
unfolding digit_of
digit_decimal n h = rw (lt-ltb n 10 h, le-leb 48 (48 + n) (omega arith), le-leb (48 + n) 57 (omega arith)) refl

all_digits : (k n : ℕ) → n ≤ k → lead is_decimal (decimal_to k n) ≡ length (decimal_to k n)
all_digits zero n h = digit_decimal n (omega arith)
all_digits (suc k) n h =
    let Digits : List ℕ → Type 0 = λ t. lead is_decimal t ≡ length t in
    let last = digit_of (n % 10) ∷ [] in
    if_either Digits (ltb n 10) _ _ (λ t. digit_decimal n (ltb-true n 10 t))
    (λ t.
    lead_append is_decimal (decimal_to k (n / 10)) last (all_digits k (n / 10) (omega arith))
    ∙ ap (λ (j : ℕ). length (decimal_to k (n / 10)) + j) (digit_decimal (n % 10) (omega arith))
    ∙ sym (length-append (decimal_to k (n / 10)) last))

some_digit : (k n : ℕ) → 1 ≤ length (decimal_to k n)
some_digit zero n = omega arith
some_digit (suc k) n =
    if_both (λ (t : List ℕ). 1 ≤ length t) (ltb n 10) (omega arith)
    (rw (length-append (decimal_to k (n / 10)) (digit_of (n % 10) ∷ [])) (omega arith))

-- one to nine of them
record Short (t : List ℕ) : Type 0 where
  some : 1 ≤ length t
  few : length t ≤ 9
  digits : lead is_decimal t ≡ length t

text_short : (n : ℕ) → n < 10 ^ 9 → Short (decimal_text n)
unfolding decimal_text
text_short n h = record { some = some_digit n n; few = short_to n 8 n h; digits = all_digits n n (omega arith) }

pub number_back : (n : ℕ) → n < 10 ^ 9 → count_in (decimal_text n) ≡ Some n
unfolding count_in decimal_in
number_back n h =
    let t = decimal_text n in
    let q = text_short n h in
    let l = q.some in
    rw (ne_eqb (length t) 0 (λ e. omega arith), le-ltb 9 (length t) q.few, eq-eqb (lead is_decimal t) (length t) q.digits, decimal_has_value n) refl
