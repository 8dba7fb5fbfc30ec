-- A digit read back is its number, and no digit is a gap or an opening's letter. Assumes nothing.
use Prim.Native.Nat.{ℕ, ◌+◌, ◌-◌, ◌<◌, ◌≤◌}
use mathlib.Core.Path.{◌≡◌, refl}
use mathlib.Core.Bool.{false}
use mathlib.Core.List.{List, ◌∷◌}
use mathlib.Core.Logic.{⊎_elim}
use native.Mathlib.Omega.{arith}
use borrow.Author.Tests.{lt-ltb, le-ltb, ltb-true, ltb-false, ne_eqb}
use lib.Dec.{eqb, ltb}
use Rattle.frame.proofs.Bools.{below_or_not, off_and, off_or, if_either, if_both}
use Rattle.print.specs.Hex.{digit_of}
use Rattle.text.specs.Hex.{value_of}
use Rattle.text.specs.Words.{is_blank, lowered}
use Rattle.text.specs.Runs.{is_gap, opening}
use Rattle.std.specs.Prelude.{Some}

decimal : (n : ℕ) → n < 10 → value_of (digit_of n) ≡ Some n
unfolding digit_of value_of
decimal n h =
    let e : 48 + n - 48 ≡ n = omega arith in
    simp (lt-ltb n 10 h, le-ltb (48 + n) 48 (omega arith), lt-ltb (48 + n) 58 (omega arith), e)

letter : (n : ℕ) → n < 16 → 10 ≤ n → value_of (digit_of n) ≡ Some n
unfolding digit_of value_of
letter n h g =
    let e : 55 + n - 55 ≡ n = omega arith in
    let a : ltb (55 + n) 48 ≡ false = le-ltb (55 + n) 48 (omega arith) in
    let b : ltb (55 + n) 58 ≡ false = le-ltb (55 + n) 58 (omega arith) in
    simp (le-ltb n 10 g, lt-ltb n 16 h, a, b, le-ltb (55 + n) 65 (omega arith), lt-ltb (55 + n) 71 (omega arith), e)

pub value_digit : (n : ℕ) → n < 16 → value_of (digit_of n) ≡ Some n
value_digit n h = ⊎_elim (decimal n) (letter n h) (below_or_not n 10)

-- where digits stand among the bytes
record Among (c : ℕ) : Type 0 where
  high : 48 ≤ c
  low : c < 71
  other : c ≡ 58 → ⊥

digit_among : (n : ℕ) → Among (digit_of n)
unfolding digit_of
digit_among n =
    if_either Among (ltb n 10) _ _
    (λ t. let h = ltb-true n 10 t in record { high = omega arith; low = omega arith; other = λ e. omega arith })
    (λ t.
    let g = ltb-false n 10 t in
    if_either Among (ltb n 16) _ _
    (λ u. let h = ltb-true n 16 u in record { high = omega arith; low = omega arith; other = λ e. omega arith })
    (λ u. record { high = omega arith; low = omega arith; other = λ e. omega arith }))

pub digit_solid : (n : ℕ) → is_gap (digit_of n) ≡ false
unfolding is_gap is_blank
digit_solid n =
    let a = digit_among n in
    let h = a.high in
    let c = digit_of n in
    let not : (k : ℕ) → (c ≡ k → ⊥) → eqb c k ≡ false = ne_eqb c in
    off_or _ _ (off_or (eqb c 32) (eqb c 9) (not 32 (λ e. omega arith)) (not 9 (λ e. omega arith)))
    (off_or (eqb c 58) (eqb c 45) (not 58 a.other) (not 45 (λ e. omega arith)))

no_letter : (c : ℕ) → c < 71 → lowered c ≡ 120 → ⊥
no_letter c h =
    let Not : ℕ → Type 0 = λ x. x ≡ 120 → ⊥ in
    if_both Not (ltb c 65) (λ e. omega arith) (if_both Not (ltb c 91) (λ e. omega arith) (λ e. omega arith))

pub digit_opens_none : (c n : ℕ) (t : List ℕ) → opening (c ∷ digit_of n ∷ t) ≡ false
unfolding opening
digit_opens_none c n t =
    off_and (eqb c 48) _ (λ q. rw (ne_eqb (lowered (digit_of n)) 120 (no_letter (digit_of n) (digit_among n).low)) refl)
