-- How many of the first bytes of a text pass a test p, as a loop over its places finds it: place and what is left add up to the same end.
-- Assumes nothing.
use mathlib.Core.Path.{◌≡◌, refl, ap, sym, ◌∙◌}
use mathlib.Core.Bool.{Bool, true, false}
use mathlib.Core.Logic.{⊎_elim}
use mathlib.Core.List.{List, [], ◌∷◌, ◌++◌}
use Prim.Native.Nat.{ℕ, suc, ◌+◌, ◌≤◌, ◌<◌}
use native.Mathlib.Nat.{zero-add, suc-add}
use native.Mathlib.Numerals.{add-one}
use native.Mathlib.Omega.{arith}
use lib.ListN.{length, get_or, drop, length-drop, drop_of_length-le}
use lib.Seq.{drop-cons}
use Rattle.frame.proofs.Bools.{below_or_not, if_both}
use Rattle.std.specs.Prelude.{None, Some, cond, position, if◌then◌else◌}
use Rattle.std.specs.List.{position_or_len}
use borrow.Author.Tests.{ltb-true, ltb-false}
use lib.Dec.{ltb}
use mathlib.Core.Bool.{not}
use Rattle.text.specs.Words.{lead}

module _ (p : ℕ → Bool) where
  pub lead_within : (s : List ℕ) → lead p s ≤ length s
  lead_within [] = omega arith
  lead_within (c ∷ s) = let h = lead_within s in if_both (λ (n : ℕ). n ≤ suc (length s)) (p c) (omega arith) (omega arith)

  -- from a place on
  pub lead_from : (s : List ℕ) (i : ℕ) → i ≤ length s → i + lead p (drop i s) ≤ length s
  lead_from s i h = let k = lead_within (drop i s) in let e = length-drop i s in omega arith

  -- a loop at place i: the text's end, a byte that does not pass, and one that does
  module _ (s : List ℕ) (i fin : ℕ) (e : i + lead p (drop i s) ≡ fin) where
    pub lead_none : length s ≤ i → i ≡ fin
    lead_none h = let z : lead p (drop i s) ≡ 0 = rw (drop_of_length-le s h) refl in omega arith

    pub lead_stop : i < length s → p (get_or s i 0) ≡ false → i ≡ fin
    lead_stop h t = let z : lead p (drop i s) ≡ 0 = rw (drop-cons s i 0 h, t) refl in omega arith

    pub lead_go : i < length s → p (get_or s i 0) ≡ true → i + 1 + lead p (drop (i + 1) s) ≡ fin
    lead_go h t =
        let z : lead p (drop i s) ≡ suc (lead p (drop (suc i) s)) = rw (drop-cons s i 0 h, t) refl in
        let y : lead p (drop (i + 1) s) ≡ lead p (drop (suc i) s) = rw add-one refl in
        omega arith

  pub lead_double : (s : List ℕ) → lead (λ c. not (not (p c))) s ≡ lead p s
  lead_double [] = refl
  lead_double (c ∷ s) = by (p c) (lead_double s)
    where
      by : (t : Bool) → {m n : ℕ} → m ≡ n → (if not (not t) then suc m else 0) ≡ (if t then suc n else 0)
      by true e = ap suc e
      by false e = refl

  -- ---- where some pass

  go : (c : ℕ) (s : List ℕ) (k : ℕ) (t : Bool) → p c ≡ t → lead p (c ∷ s) ≡ suc k → (p c ≡ true) × (lead p s ≡ k)
  go c s k true e h = let z : suc (lead p s) ≡ suc k = sym (rw e refl) ∙ h in (e, omega arith)
  go c s k false e h = let z : 0 ≡ suc k = sym (rw e refl) ∙ h in absurd (omega arith)

  pub lead_suc : (s : List ℕ) (i k : ℕ) → lead p (drop i s) ≡ suc k
      → (i < length s) × ((p (get_or s i 0) ≡ true) × (lead p (drop (suc i) s) ≡ k))
  lead_suc s i k h =
      ⊎_elim
      (λ (l : i < length s). (l, go (get_or s i 0) (drop (suc i) s) k (p (get_or s i 0)) refl (ap (lead p) (sym (drop-cons s i 0 l)) ∙ h)))
      (λ (l : length s ≤ i). let z : 0 ≡ suc k = ap (lead p) (sym (drop_of_length-le s {i = i} l)) ∙ h in absurd (omega arith))
      (below_or_not i (length s))

  -- all of a text, and what stands behind it
  pub lead_append : (s t : List ℕ) → lead p s ≡ length s → lead p (s ++ t) ≡ length s + lead p t
  lead_append [] t e = sym (zero-add (lead p t))
  lead_append (c ∷ s) t e =
      let g = go c s (length s) (p c) refl e in
      rw g.0 (ap suc (lead_append s t g.1) ∙ sym (suc-add (length s) (lead p t)))

-- ---- where a text's first byte is that passes a test `stops`, as a search finds it

module _ (stops : ℕ → Bool) where
  abbrev goes : ℕ → Bool
  goes c = not (stops c)

  led : (s : List ℕ) → position_or_len stops s ≡ lead goes s
  led [] = refl
  led (c ∷ s) = let e : 1 + lead goes s ≡ suc (lead goes s) = omega arith in rw (led s, e) refl

  -- the search's answer, where n is the place
  found : (s : List ℕ) (n i : ℕ) (t : Bool) → n ≡ lead goes s → ltb n (length s) ≡ t → cond t (Some n) None ≡ Some i → (lead goes s ≡ i) × (i < length s)
  found s n i true m q p = let k : n ≡ i = cc in let l = ltb-true n (length s) q in (omega arith, omega arith)
  found s n i false m q p = cc

  missing : (s : List ℕ) (n : ℕ) (t : Bool) → n ≡ lead goes s → ltb n (length s) ≡ t → cond t (Some n) None ≡ None → lead goes s ≡ length s
  missing s n true m q p = cc
  missing s n false m q p = let l = ltb-false n (length s) q in let k = lead_within goes s in omega arith

  pub first_found : (s : List ℕ) (i : ℕ) → position stops s ≡ Some i → (lead goes s ≡ i) × (i < length s)
  first_found s i e = found s (position_or_len stops s) i (ltb (position_or_len stops s) (length s)) (led s) refl e

  pub first_missing : (s : List ℕ) → position stops s ≡ None → lead goes s ≡ length s
  first_missing s e = missing s (position_or_len stops s) (ltb (position_or_len stops s) (length s)) (led s) refl e
