-- What is passed over at a place of a run: the ways out of `is_gap` and `opens`, and what an opening tells. Assumes nothing.
use mathlib.Core.Path.{◌≡◌, refl, ap, sym, ◌∙◌}
use mathlib.Core.Bool.{Bool, true, false, ◌&&◌, false≢true}
use mathlib.Core.List.{List}
use mathlib.Core.Logic.{⊎_elim}
use Prim.Native.Nat.{ℕ, ◌+◌, ◌-◌, ◌≤◌, ◌<◌}
use native.Mathlib.Omega.{arith}
use borrow.Author.Tests.{eq-eqb, ne_eqb, eqb-true}
use lib.Dec.{eqb}
use lib.ListN.{length, get_or, drop, get_or-eq_default}
use lib.Seq.{get_or-drop}
use Rattle.frame.proofs.Bools.{and_both, off_and, or_off, off_or, if_either, below_or_not}
use Rattle.frame.proofs.Lists.{drop_head}
use Rattle.text.specs.Hex.{value_of}
use Rattle.text.specs.Words.{is_blank, lowered}
use Rattle.std.specs.Prelude.{is_some}
use Rattle.text.specs.Runs.{is_gap, opening}
use Rattle.text.specs.RunsPlaces.{passed_at}

-- ---- the ways out of `is_gap`, where t tells whether c is a blank

module _ (c : ℕ) (t : Bool) (e : t ≡ is_blank c) where
  pub gap_blank : t ≡ true → true ≡ is_gap c
  unfolding is_gap
  gap_blank h = sym (rw (sym e ∙ h) refl)

  module _ (h : t ≡ false) where
    pub gap_colon : c ≡ 58 → true ≡ is_gap c
    unfolding is_gap
    gap_colon k = sym (rw (sym e ∙ h, eq-eqb c 58 k) refl)

    pub gap_dash : (c ≡ 58 → ⊥) → eqb c 45 ≡ is_gap c
    unfolding is_gap
    gap_dash k = sym (rw (sym e ∙ h, ne_eqb c 58 k) refl)

-- what parts no bytes is no blank
pub gap_none : (c : ℕ) → is_gap c ≡ false → is_blank c ≡ false
unfolding is_gap
gap_none c e = (or_off (is_blank c) _ e).0

-- ---- the ways out of `opens`, by its four bytes

fourth_off : (a b c d : Bool) → d ≡ false → (a && (b && (c && d))) ≡ false
fourth_off a b c d e = off_and a _ (λ p. off_and b _ (λ q. off_and c d (λ r. e)))

all_on : (a b c d : Bool) → (a && (b && (c && d))) ≡ true → (b ≡ true) × (d ≡ true)
all_on a b c d e = let x = and_both b (c && d) (and_both a (b && (c && d)) e).1 in (x.0, (and_both c d x.1).1)

module _ (s : List ℕ) (at : ℕ) where
  abbrev digit_at : ℕ → Bool
  digit_at i = is_some (value_of (get_or s i 0))

  by_places : opening (drop at s) ≡ (eqb (get_or s at 0) 48 && (eqb (lowered (get_or s (at + 1) 0)) 120 && (digit_at (at + 2) && digit_at (at + 3))))
  unfolding opening
  by_places = rw (drop_head at s, get_or-drop at s 1 0, get_or-drop at s 2 0, get_or-drop at s 3 0) refl

  pub opens_short : length s - at < 4 → false ≡ opening (drop at s)
  unfolding value_of
  opens_short h =
      let z : get_or s (at + 3) 0 ≡ 0 = get_or-eq_default s 0 {n = at + 3} (omega arith) in
      sym
      (by_places
      ∙ fourth_off (eqb (get_or s at 0) 48) (eqb (lowered (get_or s (at + 1) 0)) 120) (digit_at (at + 2)) _ (ap (λ (c : ℕ). is_some (value_of c)) z))

  pub opens_other : (get_or s at 0 ≡ 48 → ⊥) → false ≡ opening (drop at s)
  opens_other h = sym (by_places ∙ rw (ne_eqb (get_or s at 0) 48 h) refl)

  module _ (h : get_or s at 0 ≡ 48) (x : ℕ) (e : x ≡ lowered (get_or s (at + 1) 0)) where
    pub opens_letter : (x ≡ 120 → ⊥) → false ≡ opening (drop at s)
    opens_letter k = sym (by_places ∙ rw (eq-eqb (get_or s at 0) 48 h, ← e, ne_eqb x 120 k) refl)

    module _ (k : x ≡ 120) (d : Bool) (f : d ≡ digit_at (at + 2)) where
      pub opens_alone : d ≡ false → d ≡ opening (drop at s)
      opens_alone g = g ∙ sym (by_places ∙ rw (eq-eqb (get_or s at 0) 48 h, ← e, eq-eqb x 120 k, ← f, g) refl)

      pub opens_pair : d ≡ true → (y : Bool) → y ≡ digit_at (at + 3) → y ≡ opening (drop at s)
      opens_pair g y q = q ∙ sym (by_places ∙ rw (eq-eqb (get_or s at 0) 48 h, ← e, eq-eqb x 120 k, ← f, g) refl)

-- ---- what an opening tells

module _ (t : List ℕ) (e : opening t ≡ true) where
  told : (eqb (lowered (get_or t 1 0)) 120 ≡ true) × (is_some (value_of (get_or t 3 0)) ≡ true)
  unfolding opening
  told = all_on (eqb (get_or t 0 0) 48) _ (is_some (value_of (get_or t 2 0))) _ e

  -- all of it is there
  pub opening_long : 4 ≤ length t
  unfolding value_of
  opening_long =
      ⊎_elim
      (λ (l : length t < 4). absurd (false≢true (ap (λ (c : ℕ). is_some (value_of c)) (sym (get_or-eq_default t 0 {n = 3} (omega arith))) ∙ told.1)))
      (λ (l : 4 ≤ length t). l)
      (below_or_not (length t) 4)

  -- its letter is no blank
  pub opening_solid : is_blank (get_or t 1 0) ≡ false
  unfolding is_blank
  opening_solid =
      let c = get_or t 1 0 in
      let x = eqb-true (lowered c) 120 told.0 in
      let other : (k : ℕ) → (lowered k ≡ 120 → ⊥) → eqb c k ≡ false = λ k n. ne_eqb c k (λ q. n (ap lowered (sym q) ∙ x)) in
      off_or (eqb c 32) (eqb c 9) (other 32 (λ q. omega arith)) (other 9 (λ q. omega arith))

-- ---- where nothing is passed over

pub passed_none : (s : List ℕ) (at : ℕ) → passed_at s at ≡ 0 → (is_gap (get_or s at 0) ≡ false) × (opening (drop at s) ≡ false)
unfolding passed_at
passed_none s at =
    let g = is_gap (get_or s at 0) in
    let o = opening (drop at s) in
    let Told : ℕ → Type 0 = λ k. k ≡ 0 → (g ≡ false) × (o ≡ false) in
    if_either Told g _ _ (λ p q. absurd (omega arith)) (λ p. if_either Told o _ _ (λ r q. absurd (omega arith)) (λ r q. (p, r)))
