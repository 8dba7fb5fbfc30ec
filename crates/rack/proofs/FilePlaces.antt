-- Where things stand in a rack: a part of a list is decided by the bytes that it spans, a body starts where the bodies before it end, and
-- two lists with the same contents say the same in every entry. By induction on the place of a part, and on the number of bodies.
-- Assumes nothing.
use mathlib.Core.Path.{◌≡◌, refl, ap, sym, ◌∙◌}
use mathlib.Core.Logic.{⊎_elim}
use mathlib.Core.List.{List, [], ◌∷◌, ◌++◌}
use Prim.Native.Nat.{ℕ, zero, suc, ◌+◌, ◌-◌, ◌≤◌, ◌<◌}
use native.Mathlib.Nat.{eq-or-lt_of_le, add-sub_cancel_left}
use native.Mathlib.Numerals.{add-one}
use native.Mathlib.Omega.{arith}
use lib.ListN.{length, get_or, take, drop, length-drop}
use lib.Seq.{drop_at, take_at, take-take, get_or-take, drop-append-le, take-append-le}
use Rattle.frame.specs.Number.{num, part, splice}
use Rattle.rack.specs.File.{count_of, entry_at, kind_of, kind_at, length_at, offset_at, start_of, contents}

-- ---- parts

pub part_at : (p q : List ℕ) (at len : ℕ) → length p ≡ at → part at len (p ++ q) ≡ take len q
part_at p q at len h = rw (drop_at p q at h)

-- a part that lies in the front
pub part_in : (p q : List ℕ) (at len : ℕ) → at + len ≤ length p → part at len (p ++ q) ≡ part at len p
part_in p q at len h =
    rw (drop-append-le at p q (omega arith)) (take-append-le len (drop at p) q (omega (arith, length-drop at p)))

-- only what it spans counts
pub part_front : (at k n : ℕ) (xs : List ℕ) → at + k ≤ n → part at k (take n xs) ≡ part at k xs
part_front zero k n xs h = take-take k n xs (omega arith)
part_front (suc at) k zero xs h = absurd (omega arith)
part_front (suc at) k (suc n) [] h = refl
part_front (suc at) k (suc n) (x ∷ xs) h = part_front at k n xs (omega arith)

-- a part as `&s[at..at + len]` lends it
pub span_part : (at len : ℕ) (xs : List ℕ) → take ((at + len) - at) (drop at xs) ≡ part at len xs
span_part at len xs = rw (add-sub_cancel_left at len)

-- a splice behind a known front
pub splice_at : (p q ys : List ℕ) (at len : ℕ) → length p ≡ at → splice at len ys (p ++ q) ≡ p ++ (ys ++ drop len q)
splice_at p q ys at len h = rw (take_at p q at h, drop_at p q at h)

-- ---- where bodies start

pub start_none : (r : List ℕ) → start_of r 0 ≡ entry_at (count_of r)
unfolding start_of
start_none r = refl

pub start_suc : (r : List ℕ) (i : ℕ) → start_of r (suc i) ≡ start_of r i + length_at r i
unfolding start_of
start_suc r i = refl

pub start_more : (r : List ℕ) (i : ℕ) → start_of r (i + 1) ≡ start_of r i + length_at r i
start_more r i = rw (add-one, start_suc)

pub start_low : (r : List ℕ) (i : ℕ) → entry_at (count_of r) ≤ start_of r i
start_low r zero = omega (arith, start_none r)
start_low r (suc i) = omega (arith, start_low r i, start_suc r i)

-- bodies do not overlap
pub start_mono : (r : List ℕ) (i n : ℕ) → i < n → start_of r i + length_at r i ≤ start_of r n
start_mono r i zero h = absurd (omega arith)
start_mono r i (suc n) h =
    let m : i ≤ n = omega arith in
    ⊎_elim
    (λ (q : i ≡ n). rw (q, start_suc) (omega arith))
    (λ (q : i < n). omega (arith, start_mono r i n q, start_suc r n))
    (eq-or-lt_of_le m)

-- ---- the same contents

pub same_read : (n : ℕ) (x y : List ℕ) → take n x ≡ take n y → (j : ℕ) → j < n → get_or x j 0 ≡ get_or y j 0
same_read n x y e j h = sym (get_or-take n x j 0 h) ∙ ap (λ (l : List ℕ). get_or l j 0) e ∙ get_or-take n y j 0 h

pub same_part : (n : ℕ) (x y : List ℕ) → take n x ≡ take n y → (at k : ℕ) → at + k ≤ n → part at k x ≡ part at k y
same_part n x y e at k h = sym (part_front at k n x h) ∙ ap (part at k) e ∙ part_front at k n y h

module _ (r x : List ℕ) (front : take (entry_at (count_of r)) x ≡ contents r) where
  pub count_same : count_of x ≡ count_of r
  count_same = same_read (entry_at (count_of r)) x r front 1 (omega arith)

  pub kind_same : (i : ℕ) → i < count_of r → kind_at x i ≡ kind_at r i
  kind_same i h = ap kind_of (same_read (entry_at (count_of r)) x r front (entry_at i) (omega arith))

  pub length_same : (i : ℕ) → i < count_of r → length_at x i ≡ length_at r i
  length_same i h = ap num (same_part (entry_at (count_of r)) x r front (entry_at i + 2) 2 (omega arith))

  pub offset_same : (i : ℕ) → i < count_of r → offset_at x i ≡ offset_at r i
  offset_same i h = ap num (same_part (entry_at (count_of r)) x r front (entry_at i + 4) 4 (omega arith))

  pub start_same : (i : ℕ) → i ≤ count_of r → start_of x i ≡ start_of r i
  start_same zero h = omega (arith, start_none x, start_none r, count_same)
  start_same (suc i) h = omega (arith, start_suc x i, start_suc r i, start_same i (omega arith), length_same i h)
