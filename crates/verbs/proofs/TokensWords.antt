-- Words by their places, and the next byte of a kind. Assumes nothing.
use Rattle.std.proofs.Common.{◌≡◌, ℕ, ◌+◌, ◌-◌, ◌<◌, ◌≤◌, List, ◌∷◌, length, get_or, drop, sym, refl, ap, ◌∙◌, arith, le-ltb, lt-ltb, eq-eqb, ne_eqb, length-drop, take_all, Option}
use Rattle.std.specs.List.{AllWithin, HoldsAt}
use Rattle.std.specs.Option.{MatchOption, unwrap_or}
use Rattle.std.proofs.lemmas.Iterator.{index_from_first}
use Rattle.text.specs.Words.{is_blank, solid, lead}
use Rattle.text.proofs.WordsLead.{lead_from, lead_within}
use Rattle.verbs.specs.Tokens.{span, word_here, word_from, text_of, rest_of, another, find_in}

-- ---- the next word

module _ (s : List ℕ) (from : ℕ) where
  pub word_out : length s < from → span (length s) (length s) ≡ word_from s from
  unfolding word_from
  word_out h = sym (rw (lt-ltb (length s) from h) refl)

  module _ (h : from ≤ length s) (at : ℕ) (e : at ≡ from + lead is_blank (drop from s)) where
    here : word_here s at ≡ word_from s from
    unfolding word_from
    here = sym (rw (le-ltb (length s) from h, ← e) refl)

    pub word_starts : at ≤ length s
    word_starts = let k = lead_from is_blank s from h in omega arith

    pub word_hash : {b : ℕ} → b ≡ get_or s at 0 → b ≡ 35 → span at at ≡ word_from s from
    unfolding word_here
    word_hash f g = sym (rw (eq-eqb (get_or s at 0) 35 (sym f ∙ g)) refl) ∙ here

    pub word_there : {b to : ℕ} → b ≡ get_or s at 0 → (b ≡ 35 → ⊥) → to ≡ at + lead solid (drop at s) → span at to ≡ word_from s from
    unfolding word_here
    word_there f g k = ap (span at) k ∙ sym (rw (ne_eqb (get_or s at 0) 35 (λ q. g (f ∙ q))) refl) ∙ here

-- ---- the next such byte

module _ (b : ℕ) where
  stops : (x : ℕ) (xs : List ℕ) → x ≡ b → lead (another b) (x ∷ xs) ≡ 0
  stops x xs h = rw (eq-eqb x b h) refl

  goes : (x : ℕ) (xs : List ℕ) → (x ≡ b → ⊥) → lead (another b) (x ∷ xs) ≡ lead (another b) xs + 1
  goes x xs h = rw (ne_eqb x b h) (omega arith)

  -- what `position` finds
  pub lead_first : (s : List ℕ) (r : Option ℕ)
      → MatchOption r (AllWithin (λ x. x ≡ b → ⊥) s 0 (length s)) (λ i. (i < length s) × HoldsAt (λ x. x ≡ b) s i × AllWithin (λ x. x ≡ b → ⊥) s 0 i)
      → lead (another b) s ≡ unwrap_or r (length s)
  lead_first = index_from_first (lead (another b)) (λ x. x ≡ b) (λ x. x ≡ b → ⊥) refl stops goes

pub rest_is : (s : List ℕ) (from : ℕ) → rest_of s from ≡ drop from s
unfolding text_of
rest_is s from = rw (le-ltb (length s) (length s) (omega arith)) (take_all (length s - from) (drop from s) (simp length-drop (omega arith)))

module _ (s : List ℕ) (from b : ℕ) {r : ℕ} (e : lead (another b) (rest_of s from) ≡ r) where
  pub find_is : from + r ≡ find_in s from b
  unfolding find_in
  find_is = ap (λ (k : ℕ). from + k) (sym e ∙ ap (lead (another b)) (rest_is s from))

  pub find_fits : from + r ≤ from + (length s - from)
  find_fits =
      let h = lead_within (another b) (rest_of s from) in
      let k : length (rest_of s from) ≡ length s - from = ap length (rest_is s from) ∙ length-drop from s in
      omega arith
