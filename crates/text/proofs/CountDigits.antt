-- Decimal digits as `decimal_in` goes over them: what they say so far, and what is left, lead to the same number. Assumes nothing.
use mathlib.Core.Path.{◌≡◌, refl, ap, sym, ◌∙◌}
use mathlib.Core.Bool.{true, false}
use mathlib.Core.List.{List}
use Prim.Native.Nat.{ℕ, ◌+◌, ◌-◌, ◌*◌, ◌^◌, ◌≤◌, ◌<◌}
use native.Mathlib.Nat.{pow-suc, pow-le-pow_right}
use native.Mathlib.Numerals.{add-one}
use native.Mathlib.Omega.{arith}
use borrow.Author.Tests.{eq-eqb, ne_eqb, le-leb}
use lib.ListN.{length, get_or, drop, drop_of_length-le}
use lib.Seq.{drop-cons}
use Rattle.text.proofs.WordsLead.{lead_none, lead_stop, lead_go}
use Rattle.print.specs.Decimal.{decimal_on, decimal_value}
use Rattle.text.specs.Words.{lead}
use Rattle.text.specs.Count.{is_decimal, decimal_in}
use Rattle.std.specs.Prelude.{None, Some}

-- the first i bytes are digits, and say n
pub record Digits (s : List ℕ) (n i : ℕ) : Type 0 where
  pub inside : i ≤ length s
  pub some : i + lead is_decimal (drop i s) ≡ lead is_decimal s
  pub value : decimal_on n (drop i s) ≡ decimal_value s
  pub small : n < 10 ^ i

pub digits_start : (s : List ℕ) → Digits s 0 0
unfolding decimal_value
digits_start s = record { inside = omega arith; some = omega arith; value = refl; small = omega arith }

module _ (s : List ℕ) (n i : ℕ) (v : Digits s n i) where
  pub digits_end : length s ≤ i → Some n ≡ decimal_in s
  unfolding decimal_in
  digits_end h =
      let z = lead_none is_decimal s i (lead is_decimal s) v.some h in
      let d : decimal_value s ≡ n = sym v.value ∙ rw (drop_of_length-le s {i = i} h) refl in
      let o = v.inside in
      sym (rw (eq-eqb (lead is_decimal s) (length s) (omega arith), d) refl)

  module _ (h : i < length s) where
    pub digits_other : is_decimal (get_or s i 0) ≡ false → None ≡ decimal_in s
    unfolding decimal_in
    digits_other t =
        let z = lead_stop is_decimal s i (lead is_decimal s) v.some h t in
        sym (rw (ne_eqb (lead is_decimal s) (length s) (λ q. omega arith)) refl)

    module _ (k : 48 ≤ get_or s i 0) where
      -- of nine at most
      pub digits_room : length s ≤ 9 → n < 10 ^ 8
      digits_room l =
          let g : i ≤ 8 = omega arith in
          let p : 10 ^ i ≤ 10 ^ 8 = pow-le-pow_right (omega arith) g in
          let q = v.small in
          omega arith

      pub digits_on : get_or s i 0 ≤ 57 → Digits s (n * 10 + (get_or s i 0 - 48)) (i + 1)
      digits_on l =
          let t : is_decimal (get_or s i 0) ≡ true = rw (le-leb 48 (get_or s i 0) k, le-leb (get_or s i 0) 57 l) refl in
          let p : 10 ^ (i + 1) ≡ 10 ^ i * 10 = rw add-one (pow-suc 10 i) in
          let q = v.small in
          record {
            inside = omega arith;
            some = lead_go is_decimal s i (lead is_decimal s) v.some h t;
            value = rw add-one (sym (ap (decimal_on n) (drop-cons s i 0 h)) ∙ v.value);
            small = omega arith;
          }
