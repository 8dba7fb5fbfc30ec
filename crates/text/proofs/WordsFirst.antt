-- The ways out of `first_word`, where n is the place behind a text's first blanks. Assumes nothing.
use mathlib.Core.Path.{◌≡◌, refl, ap, sym, ◌∙◌}
use mathlib.Core.Bool.{false}
use mathlib.Core.List.{List, ◌∷◌, ◌++◌}
use Prim.Native.Nat.{ℕ, ◌+◌, ◌-◌, ◌≤◌}
use native.Mathlib.Nat.{add-zero, zero-add, add-sub_cancel_left}
use native.Mathlib.Omega.{arith}
use borrow.Author.Tests.{eq-eqb, ne_eqb}
use lib.Dec.{eqb}
use lib.ListN.{length, get_or, take, drop}
use lib.Seq.{take-append_seam}
use Rattle.frame.proofs.Bools.{if_either, if_both}
use Rattle.text.proofs.WordsLead.{lead_within, lead_from, lead_append}
use Rattle.text.specs.Words.{is_blank, solid, lead, word_of, word_at, first_word}
use Rattle.text.specs.declared.words.Keyword.{Keyword}
use Rattle.text.specs.declared.words.Keyword.TheVariants as w
use Rattle.text.specs.declared.words.FirstWord.{FirstWord}

module _ (s : List ℕ) (n : ℕ) (e : n ≡ 0 + lead is_blank (drop 0 s)) where
  at : lead is_blank s ≡ n
  at = omega (arith, e)

  pub word_none : n ≡ length s → record { word = w.Empty; rest = n } ≡ first_word s
  unfolding first_word word_at
  word_none h = sym (rw (at, eq-eqb n (length s) h) refl)

  pub word_comment : (n ≡ length s → ⊥) → get_or s n 0 ≡ 35 → record { word = w.Comment; rest = length s } ≡ first_word s
  unfolding first_word word_at
  word_comment h k = sym (rw (at, ne_eqb n (length s) h, eq-eqb (get_or s n 0) 35 k) refl)

  pub word_there : (x : Keyword) (to : ℕ) → (n ≡ length s → ⊥) → (get_or s n 0 ≡ 35 → ⊥) → to ≡ n + lead solid (drop n s)
      → x ≡ word_of (take (to - n) (drop n s)) → record { word = x; rest = to } ≡ first_word s
  unfolding first_word word_at
  word_there x to h k f g = sym (rw (at, ne_eqb n (length s) h, ne_eqb (get_or s n 0) 35 k, g, f, add-sub_cancel_left) refl)

-- a word, and behind it nothing or a blank
pub word_read : (c : ℕ) (s t : List ℕ) → is_blank c ≡ false → (c ≡ 35 → ⊥) → lead solid (c ∷ s) ≡ length (c ∷ s) → lead solid t ≡ 0
    → first_word ((c ∷ s) ++ t) ≡ record { word = word_of (c ∷ s); rest = length (c ∷ s) }
unfolding first_word word_at
word_read c s t b h l z =
    let v = c ∷ s in
    let n : lead is_blank (v ++ t) ≡ 0 = rw b refl in
    let e : lead solid (v ++ t) ≡ length v = lead_append solid v t l ∙ ap (λ (k : ℕ). length v + k) z ∙ add-zero (length v) in
    ap (word_at (v ++ t)) n
    ∙ rw (ne_eqb 0 (length (v ++ t)) (λ q. omega arith), ne_eqb c 35 h)
    (ap (λ (k : ℕ). record { word = word_of (take k (v ++ t)); rest = 0 + k }) e
    ∙ ap (λ (u : List ℕ). record { word = word_of u; rest = 0 + length v }) (take-append_seam v t)
    ∙ ap (λ (k : ℕ). record { word = word_of v; rest = k }) (zero-add (length v)))

-- for callers: the word ends within the line
at_inside : (s : List ℕ) (n : ℕ) → n ≤ length s → (word_at s n).rest ≤ length s
unfolding word_at
at_inside s n h =
    if_either (λ (y : FirstWord). y.rest ≤ length s) (eqb n (length s)) _ _ (λ q. h)
    (λ q. if_both (λ (y : FirstWord). y.rest ≤ length s) (eqb (get_or s n 0) 35) (omega arith) (lead_from solid s n h))

pub word_inside : (s : List ℕ) (x : FirstWord) → x ≡ first_word s → x.rest ≤ length s
unfolding first_word
word_inside s x e = rw e (at_inside s (lead is_blank s) (lead_within is_blank s))
