-- Bytes compared, and words with a colon for the first comma. Assumes nothing.
use mathlib.Core.Path.{◌≡◌, refl, ap, ap₂, sym, ◌∙◌}
use mathlib.Core.Logic.{⊎_elim}
use mathlib.Core.Bool.{Bool, true, false, false≢true, ◌&&◌}
use mathlib.Core.List.{List, [], ◌∷◌, ◌++◌}
use Prim.Native.Nat.{ℕ, zero, suc, ◌+◌, ◌-◌, ◌≤◌, ◌<◌}
use native.Mathlib.Omega.{arith}
use borrow.Author.Tests.{lt-ltb, le-ltb, eq-eqb, ne_eqb}
use lib.ListN.{length, get_or, set, take, drop}
use Rattle.frame.proofs.Bools.{below_or_not, and_false, and_true}
use Rattle.frame.specs.Number.{part}
use Rattle.frame.specs.Choose.{gather}
use Rattle.frame.proofs.Lists.{gather_more}
use Rattle.print.specs.Line.{Lent, laid, marked}
use Rattle.print.proofs.Lines.{laid_both, laid_none}
use Rattle.chip_body.specs.Body.{place_of}
use Rattle.rack.proofs.FilePlaces.{span_part}
use Rattle.trace.specs.Change.{same_bytes, coloned}
use Rattle.trace.specs.Labels.{label_told}
use Rattle.trace.specs.Chips.{chip_told}

-- ---- bytes that are the same

same_on : (n at : ℕ) (a b : List ℕ) → get_or a at 0 ≡ get_or b at 0 → same_bytes (suc n) at a b ≡ same_bytes n (suc at) a b
unfolding same_bytes
same_on n at a b e = rw (eq-eqb _ _ e) refl

same_off : (n at : ℕ) (a b : List ℕ) → (get_or a at 0 ≡ get_or b at 0 → ⊥) → same_bytes (suc n) at a b ≡ false
unfolding same_bytes
same_off n at a b e = rw (ne_eqb _ _ e) refl

-- k of them are looked at, and `same` says whether all of these are
pub record Matching (a b : List ℕ) (at n k : ℕ) (same : Bool) : Type 0 where
  pub upto : k ≤ n
  pub tells : (same && same_bytes (n - k) (at + k) a b) ≡ same_bytes n at a b

pub matching_none : (a b : List ℕ) (at n : ℕ) → Matching a b at n 0 true
matching_none a b at n = let e : n - 0 ≡ n = omega arith in let z : at + 0 ≡ at = omega arith in record { upto = omega arith; tells = rw (e, z) refl }

module _ {a b : List ℕ} {at n k : ℕ} {same : Bool} (m : Matching a b at n k same) where
  module _ (h : k < n) where
    step : n - k ≡ suc (n - (k + 1))
    step = omega arith

    pub matching_not : (get_or a (at + k) 0 ≡ get_or b (at + k) 0 → ⊥) → Matching a b at n (k + 1) false
    matching_not z =
        let e : same_bytes (n - k) (at + k) a b ≡ false = rw step (same_off (n - (k + 1)) (at + k) a b z) in
        record { upto = omega arith; tells = sym (and_false same) ∙ ap (λ (t : Bool). same && t) (sym e) ∙ m.tells }

    pub matching_on : get_or a (at + k) 0 ≡ get_or b (at + k) 0 → Matching a b at n (k + 1) same
    matching_on z =
        let w : at + (k + 1) ≡ suc (at + k) = omega arith in
        let e : same_bytes (n - k) (at + k) a b ≡ same_bytes (n - (k + 1)) (at + (k + 1)) a b =
        rw (step, w) (same_on (n - (k + 1)) (at + k) a b z) in
        record { upto = omega arith; tells = ap (λ (t : Bool). same && t) (sym e) ∙ m.tells }

  pub matching_done : n ≤ k → same ≡ same_bytes n at a b
  unfolding same_bytes
  matching_done h =
      let u = m.upto in
      let e : n - k ≡ 0 = omega arith in
      and_true same ∙ ap (λ (j : ℕ). same && same_bytes j (at + k) a b) (sym e) ∙ m.tells

-- ---- the first comma: what is laid behind a line has it where the line ended

set_end : (old s : List ℕ) (v : ℕ) → set (old ++ s) (length old) v ≡ old ++ set s 0 v
set_end [] s v = refl
set_end (x ∷ old) s v = ap (λ (l : List ℕ). x ∷ l) (set_end old s v)

coloned_taken : (k : ℕ) (s : List ℕ) → set (take k s) 0 58 ≡ take k (coloned s)
unfolding coloned
coloned_taken zero s = refl
coloned_taken (suc k) [] = refl
coloned_taken (suc k) (c ∷ s) = refl

coloned_long : (s : List ℕ) → length (coloned s) ≡ length s
unfolding coloned
coloned_long [] = refl
coloned_long (c ∷ s) = refl

pub coloned_laid : (line : Lent) (s : List ℕ) → marked (laid line s) (length line.text) 58 ≡ laid line (coloned s)
unfolding laid
coloned_laid line s =
    let k = length line.behind in
    ap₂
    (λ (x : List ℕ) (n : ℕ). record line { text = x; behind = drop n line.behind })
    (set_end line.text (take k s) 58 ∙ ap (λ (l : List ℕ). line.text ++ l) (coloned_taken k s))
    (sym (coloned_long s))

-- ---- a loop that lays f 0, f 1, ..: one more, and one that is nothing

module _ (line : Lent) (f : ℕ → List ℕ) (i : ℕ) {mid : Lent} (p : mid ≡ laid line (gather i f)) where
  pub gathered_on : {new : Lent} → new ≡ laid mid (f i) → new ≡ laid line (gather (i + 1) f)
  gathered_on q =
      q
      ∙ ap (λ (l : Lent). laid l (f i)) p
      ∙ laid_both line (gather i f) (f i)
      ∙ ap (laid line) (sym (gather_more i f))

  pub gathered_past : f i ≡ [] → mid ≡ laid line (gather (i + 1) f)
  gathered_past e = gathered_on (sym (laid_none mid) ∙ ap (laid mid) (sym e))

-- ---- what was read

pub part_of : {p q e : ℕ} (k : ℕ) (b : List ℕ) → p ≡ q → e ≡ p + k → take (e - p) (drop p b) ≡ part q k b
part_of k b h g = ap₂ (λ (i j : ℕ). take (i - j) (drop j b)) (g ∙ ap (λ (i : ℕ). i + k) h) h ∙ span_part _ k b

-- bytes compared at a place that was read
pub same_by : {t : Bool} {p q k l : ℕ} (a b : List ℕ) → t ≡ same_bytes k p a b → p ≡ q → k ≡ l → same_bytes l q a b ≡ t
same_by a b e h g = sym (e ∙ ap₂ (λ (i j : ℕ). same_bytes i j a b) g h)

pub place_low : (n : ℕ) → place_of n ≤ 64
unfolding place_of
place_low n = ⊎_elim (λ l. rw (lt-ltb n 16 l) (omega arith)) (λ l. rw (le-ltb n 16 l) (omega arith)) (below_or_not n 16)

pub told_whole : (a b : List ℕ) → label_told a b ≡ true → length b ≤ length a
unfolding label_told
told_whole a b e = ⊎_elim (λ l. absurd (false≢true (rw (lt-ltb (length a) (length b) l) at e))) (λ l. l) (below_or_not (length a) (length b))

pub told_long : (a b : List ℕ) → chip_told a b ≡ true → 80 ≤ length a
unfolding chip_told
told_long a b e = ⊎_elim (λ l. absurd (false≢true (rw (lt-ltb (length a) 80 l) at e))) (λ l. l) (below_or_not (length a) 80)
