-- Draws: bytes padded with zeros, as a loop over places sets them, and how many an event takes. Assumes nothing.
use mathlib.Core.Path.{◌≡◌, refl, ap, sym, ◌∙◌}
use mathlib.Core.List.{List, [], ◌∷◌, ◌++◌, append-nil}
use Prim.Native.Nat.{ℕ, zero, suc, ◌+◌, ◌-◌, ◌≤◌, ◌<◌}
use native.Mathlib.Nat.{sub-zero}
use native.Mathlib.Omega.{arith}
use borrow.Author.Tests.{lt-ltb, le-ltb, ltb-false}
use lib.Dec.{ltb}
use lib.ListN.{length, get_or, drop, set}
use lib.Seq.{sets, drop-length, drop-drop}
use Rattle.frame.proofs.Bools.{if_either}
use Rattle.frame.proofs.Lists.{drop_head}
use Rattle.frame.proofs.Puts.{one, none, sets_front}
use Rattle.script.specs.Lines.{padded, draws_for}

length_padded : (k : ℕ) (b : List ℕ) → length (padded k b) ≡ k
length_padded zero b = refl
length_padded (suc k) [] = ap suc (length_padded k [])
length_padded (suc k) (x ∷ b) = ap suc (length_padded k b)

-- the next is the first byte that is left, or 00
pad_more : (k : ℕ) (b : List ℕ) → padded (suc k) b ≡ get_or b 0 0 ∷ padded k (drop 1 b)
pad_more k [] = refl
pad_more k (x ∷ b) = refl

-- ---- the loop of `set_draws`: d draws in all, of which i are set

module _ (d i : ℕ) (b : List ℕ) where
  -- what is still to be set
  abbrev left : List ℕ
  left = padded (d - i) (drop i b)

  abbrev later : List ℕ
  later = padded (d - (i + 1)) (drop (i + 1) b)

  pad_next : i < d → left ≡ get_or b i 0 ∷ later
  pad_next h =
      let e : d - i ≡ suc (d - (i + 1)) = omega arith in
      ap (λ (k : ℕ). padded k (drop i b)) e
      ∙ pad_more (d - (i + 1)) (drop i b)
      ∙ ap (λ (x : ℕ). x ∷ padded (d - (i + 1)) (drop 1 (drop i b))) (drop_head i b)
      ∙ ap (λ (u : List ℕ). get_or b i 0 ∷ padded (d - (i + 1)) u) (drop-drop 1 i b)

  -- a turn sets one, and the last leaves nothing to set
  module _ (draws fin : List ℕ) (g : sets draws i left ≡ fin) where
    pub pad_one : (x : ℕ) → i < d → x ≡ get_or b i 0 → sets (set draws i x) (i + 1) later ≡ fin
    pad_one x h e = one draws fin left later i (i + 1) x (pad_next h ∙ ap (λ (y : ℕ). y ∷ later) (sym e)) refl g

    pub pad_none : d ≤ i → draws ≡ fin
    pad_none h = let e : d - i ≡ 0 = omega arith in none draws fin left i (ap (λ (k : ℕ). padded k (drop i b)) e) g

-- all of them, over the old draws
pub pad_start : (draws b : List ℕ) → sets draws 0 (padded (length draws - 0) (drop 0 b)) ≡ padded (length draws) b
pad_start draws b =
    let all = padded (length draws) b in
    let l = length_padded (length draws) b in
    ap (λ (k : ℕ). sets draws 0 (padded k b)) (sub-zero (length draws))
    ∙ sets_front all draws (omega arith)
    ∙ ap (λ (k : ℕ). all ++ drop k draws) l
    ∙ ap (λ (u : List ℕ). all ++ u) (drop-length draws)
    ∙ append-nil all

-- ---- how many an event takes

-- as many as there are tags, or as are at hand
pub few_most : (n m most : ℕ) → n ≡ m → most < n → most ≡ draws_for m most
unfolding draws_for
few_most n m most e h = sym (rw (lt-ltb most m (rw (sym e) h)) refl)

pub few_all : (n m most : ℕ) → n ≡ m → n ≤ most → n ≡ draws_for m most
unfolding draws_for
few_all n m most e h = e ∙ sym (rw (le-ltb most m (rw (sym e) h)) refl)

pub few_inside : (n m most : ℕ) → n ≡ draws_for m most → n ≤ most
unfolding draws_for
few_inside n m most e = rw e (if_either (λ (k : ℕ). k ≤ most) (ltb most m) most m (λ q. omega arith) (λ q. ltb-false most m q))
