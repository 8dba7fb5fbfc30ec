-- A question to a rack, tag by tag. Assumes nothing.
use mathlib.Core.Path.{◌≡◌, refl, ap, ap₂, sym, subst, ◌∙◌}
use mathlib.Core.Logic.{⊎_elim}
use mathlib.Core.Bool.{Bool, true, false, ◌||◌}
use mathlib.Core.List.{List}
use Prim.Native.Nat.{ℕ, zero, suc, ◌+◌, ◌-◌, ◌≤◌, ◌<◌}
use native.Mathlib.Numerals.{add-one}
use native.Mathlib.Omega.{arith}
use lib.Dec.{eqb}
use Rattle.frame.proofs.Bools.{or_right, below_or_not}
use Rattle.rack.specs.declared.tag.Kind.{Kind}
use Rattle.rack.specs.File.{count_of, kind_at}
use Rattle.rack.specs.Facts.{body_of}
use Rattle.trace.specs.declared.question.Ask.{Ask}
use Rattle.trace.specs.declared.question.Ask.TheVariants as a
use Rattle.trace.specs.Question.{tag_fits, some, any_of, lowest_from}

-- ---- any question that goes from 0 on

pub some_none : (p : ℕ → Bool) → some 0 p ≡ false
unfolding some
some_none p = refl

pub some_more : (p : ℕ → Bool) (i : ℕ) → some (i + 1) p ≡ (some i p || p i)
unfolding some
some_more p i = rw add-one refl

some_next : (p : ℕ → Bool) (i : ℕ) → some i p ≡ false → p i ≡ false → some (i + 1) p ≡ false
unfolding some
some_next p i e f = rw (add-one, e) f

some_here : (p : ℕ → Bool) (n i : ℕ) → i < n → p i ≡ true → some n p ≡ true
unfolding some
some_here p zero i h e = absurd (omega arith)
some_here p (suc n) i h e =
    ⊎_elim (λ l. rw (some_here p n i l e) refl)
    (λ l. let q : i ≡ n = omega arith in or_right (some n p) (p n) (ap p (sym q) ∙ e))
    (below_or_not i n)

-- ---- the loop: no tag before i fits

pub record Asking (ask : Ask) (r : List ℕ) (n i : ℕ) : Type 0 where
  pub upto : i ≤ n
  pub none : some i (λ j. tag_fits ask (kind_at r j) (body_of r j)) ≡ false

pub asking_none : (ask : Ask) (r : List ℕ) (n : ℕ) → Asking ask r n 0
unfolding some
asking_none ask r n = record { upto = omega arith; none = refl }

module _ {ask : Ask} {r : List ℕ} {n i : ℕ} (s : Asking ask r n i) (c : n ≡ count_of r) where
  module _ (h : i < n) {kind : Kind} (k : kind ≡ kind_at r i) {b : List ℕ} (q : b ≡ body_of r i) {t : Bool} (e : t ≡ tag_fits ask kind b) where
    pub asking_yes : t ≡ true → true ≡ any_of ask r
    unfolding any_of
    asking_yes y =
        sym
        (some_here (λ j. tag_fits ask (kind_at r j) (body_of r j)) (count_of r) i (subst (λ (x : ℕ). i < x) c h)
        (ap₂ (λ x z. tag_fits ask x z) (sym k) (sym q) ∙ sym e ∙ y))

    pub asking_on : t ≡ false → Asking ask r n (i + 1)
    asking_on y =
        record {
          upto = omega arith;
          none = some_next _ i s.none (ap₂ (λ x z. tag_fits ask x z) (sym k) (sym q) ∙ sym e ∙ y);
        }

  pub asking_no : n ≤ i → false ≡ any_of ask r
  unfolding any_of
  asking_no h = let u = s.upto in let z : i ≡ count_of r = omega arith in sym (rw z at s.none)

-- ---- a UID that was read

pub uid_asked : {x v : ℕ} (u : ℕ) → x ≡ v → eqb x u ≡ eqb v u
uid_asked u e = ap (λ (n : ℕ). eqb n u) e

-- ---- the lowest slot

lowest_here : (n s : ℕ) (r : List ℕ) → 0 < n → {t : Bool} → t ≡ any_of (a.Slot s) r → t ≡ true → lowest_from n s r ≡ s
unfolding lowest_from
lowest_here zero s r h e y = absurd (omega arith)
lowest_here (suc n) s r h e y = rw (sym e ∙ y) refl

lowest_on : (n m s : ℕ) (r : List ℕ) → n ≡ m + 1 → {t : Bool} → t ≡ any_of (a.Slot s) r → t ≡ false → lowest_from n s r ≡ lowest_from m (s + 1) r
unfolding lowest_from
lowest_on n m s r q e y = rw (q, add-one m, add-one s, sym e ∙ y) refl

lowest_none : (n s : ℕ) (r : List ℕ) → n ≡ 0 → lowest_from n s r ≡ s
unfolding lowest_from
lowest_none n s r q = rw q refl

-- no label has a slot below s
pub record Seeking (r : List ℕ) (s : ℕ) : Type 0 where
  pub upto : s ≤ 16
  pub same : lowest_from (16 - s) s r ≡ lowest_from 16 0 r

module _ {r : List ℕ} {s : ℕ} (k : Seeking r s) where
  pub seeking_here : s < 16 → {t : Bool} → t ≡ any_of (a.Slot s) r → t ≡ true → s ≡ lowest_from 16 0 r
  seeking_here h e y = sym (lowest_here (16 - s) s r (omega arith) e y) ∙ k.same

  pub seeking_on : s < 16 → {t : Bool} → t ≡ any_of (a.Slot s) r → t ≡ false → Seeking r (s + 1)
  seeking_on h e y = record { upto = omega arith; same = sym (lowest_on (16 - s) (16 - (s + 1)) s r (omega arith) e y) ∙ k.same }

  pub seeking_none : 16 ≤ s → 16 ≡ lowest_from 16 0 r
  seeking_none h =
      let u = k.upto in
      let z : 16 ≡ s = omega arith in
      z ∙ sym (lowest_none (16 - s) s r (omega arith)) ∙ k.same
