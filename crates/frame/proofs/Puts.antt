-- Writers. A loop that stores a run keeps "what is still to be written leads to the same end", so a turn takes one element off the front.
-- A straight line of puts is followed by one record, `Laid`: the front of the old buffer is covered by what was put so far. A buffer's own front is laid
-- too, so `seal_part` covers it anew with the frame of that front and the part.
-- Assumes nothing.
use mathlib.Core.Path.{◌≡◌, refl, ap, sym, ◌∙◌}
use mathlib.Core.Bool.{Bool, true}
use mathlib.Core.List.{List, [], ◌∷◌, ◌++◌}
use Prim.Native.Nat.{ℕ, suc, ◌+◌, ◌-◌, ◌/◌, ◌%◌, ◌≤◌, ◌<◌}
use native.Mathlib.Nat.{sub-zero, add-zero, zero-add, add-suc, suc-add}
use native.Mathlib.Numerals.{add-one}
use native.Mathlib.Omega.{arith}
use lib.ListN.{length, get_or, take, drop, set, length-append, length-take, drop_of_length-le}
use lib.Seq.{sets, sets-eq, take_at, length-take-le, drop-cons, get_or-take}
use Rattle.frame.specs.Number.{bytes_of, part}
use Rattle.frame.specs.CheckSum.{crc_with, crc_of, framed_with, framed}
use Rattle.frame.proofs.Numbers.{length_bytes}
use Rattle.frame.proofs.CheckSumFrames.{length_framed}
use Rattle.frame.proofs.Stores.{length_part, part_whole, sets_own, sets_over}

-- ---- a loop that writes what is left, rest, from place p on

pub one : (out fin rest more : List ℕ) (p q x : ℕ) → rest ≡ x ∷ more → q ≡ p + 1 → sets out p rest ≡ fin → sets (set out p x) q more ≡ fin
one out fin rest more p q x e f h = rw (f, add-one) (rw e at h)

pub none : (out fin rest : List ℕ) (p : ℕ) → rest ≡ [] → sets out p rest ≡ fin → out ≡ fin
none out fin rest p e h = rw e at h

-- what is left of a number's bytes, where some are left, and where none is
pub bytes_next : (k i w : ℕ) → i < k → bytes_of (k - i) w ≡ w % 256 ∷ bytes_of (k - (i + 1)) (w / 256)
bytes_next k i w h = let e : k - i ≡ suc (k - (i + 1)) = omega arith in rw e

pub bytes_none : (k i w : ℕ) → k ≤ i → bytes_of (k - i) w ≡ []
bytes_none k i w h = let e : k - i ≡ 0 = omega arith in rw e

-- a loop that writes a number's bytes: where it starts, a turn, and its end
pub number_none : (out : List ℕ) (at k v : ℕ) → sets out (at + 0) (bytes_of (k - 0) v) ≡ sets out at (bytes_of k v)
number_none out at k v = rw (add-zero, sub-zero)

pub number_more : (out fin : List ℕ) (at k i w : ℕ) → sets out (at + i) (bytes_of (k - i) w) ≡ fin → i < k
    → sets (set out (at + i) (w % 256)) (at + (i + 1)) (bytes_of (k - (i + 1)) (w / 256)) ≡ fin
number_more out fin at k i w e h = one out fin _ _ (at + i) (at + (i + 1)) (w % 256) (bytes_next k i w h) (omega arith) e

pub number_all : (out fin : List ℕ) (at k i w : ℕ) → sets out (at + i) (bytes_of (k - i) w) ≡ fin → k ≤ i → out ≡ fin
number_all out fin at k i w e h = none out fin _ (at + i) (bytes_none k i w h) e

-- what is left of the bytes to be copied, where some are left, and where none is
pub left_next : (src : List ℕ) (n i : ℕ) → i < n → n ≤ length src → drop i (take n src) ≡ get_or src i 0 ∷ drop (i + 1) (take n src)
left_next src n i h l =
    let k : i < length (take n src) = rw (length-take-le n src l) h in
    rw add-one (drop-cons (take n src) i 0 k ∙ rw (get_or-take n src i 0 h))

pub left_none : (src : List ℕ) (n i : ℕ) → n ≤ i → drop i (take n src) ≡ []
left_none src n i h = drop_of_length-le (take n src) {i = i} (rw length-take (omega arith))

-- a loop that copies bytes: where it starts, a turn, and its end
pub copy_none : (out src : List ℕ) (at n : ℕ) → sets out (at + 0) (drop 0 (take n src)) ≡ sets out at (take n src)
copy_none out src at n = rw add-zero

pub copy_more : (out fin src : List ℕ) (at n i : ℕ) → sets out (at + i) (drop i (take n src)) ≡ fin → i < n → n ≤ length src
    → sets (set out (at + i) (get_or src i 0)) (at + (i + 1)) (drop (i + 1) (take n src)) ≡ fin
copy_more out fin src at n i e h l = one out fin _ _ (at + i) (at + (i + 1)) (get_or src i 0) (left_next src n i h l) (omega arith) e

pub copy_all : (out fin src : List ℕ) (at n i : ℕ) → sets out (at + i) (drop i (take n src)) ≡ fin → n ≤ i → out ≡ fin
copy_all out fin src at n i e h = none out fin _ (at + i) (left_none src n i h) e

-- ---- runs of stores

-- two runs, one behind the other, are one
pub sets_append : (xs ys old : List ℕ) (at : ℕ) → sets old at (xs ++ ys) ≡ sets (sets old at xs) (at + length xs) ys
sets_append [] ys old at = rw add-zero
sets_append (x ∷ xs) ys old at = sets_append xs ys (set old at x) (suc at) ∙ rw (add-suc, suc-add)

-- a run from the start: its bytes, and behind them the old ones
pub sets_front : (xs old : List ℕ) → length xs ≤ length old → sets old 0 xs ≡ xs ++ drop (length xs) old
sets_front xs old h =
    let h' : 0 + length xs ≤ length old = omega arith in
    sets-eq xs old 0 h' ∙ rw zero-add

-- ---- old, with xs written over its front up to place n: what holds after each put of a writer

pub record Laid (xs : List ℕ) (n : ℕ) (old now : List ℕ) : Type 0 where
  pub long : n ≡ length xs
  pub is : now ≡ sets old 0 xs

pub laid_none : (old : List ℕ) → Laid [] 0 old old
laid_none old = record { long = refl; is = refl }

pub laid_more : (xs ys : List ℕ) (n n' : ℕ) (old now now' : List ℕ) → Laid xs n old now → n' ≡ n + length ys → now' ≡ sets now n ys
    → Laid (xs ++ ys) n' old now'
laid_more xs ys n n' old now now' l e f =
    record {
      long = rw (length-append, ← l.long) e;
      is = f ∙ rw (l.is, l.long, sets_append, zero-add);
    }

-- the put functions, each from what it ensures
pub laid_number : {xs : List ℕ} {n n' : ℕ} {old now now' : List ℕ} (k v : ℕ) → Laid xs n old now
    → (n' ≡ n + k) × (now' ≡ sets now n (bytes_of k v)) → Laid (xs ++ bytes_of k v) n' old now'
laid_number {xs} {n} {n'} {old} {now} {now'} k v l e = laid_more xs (bytes_of k v) n n' old now now' l (rw length_bytes e.0) e.1

pub laid_bytes : {xs : List ℕ} {n n' : ℕ} {old now now' : List ℕ} (k : ℕ) (src : List ℕ) → k ≤ length src → Laid xs n old now
    → (n' ≡ n + k) × (now' ≡ sets now n (take k src)) → Laid (xs ++ take k src) n' old now'
laid_bytes {xs} {n} {n'} {old} {now} {now'} k src h l e = laid_more xs (take k src) n n' old now now' l (rw (length-take-le k src) e.0) e.1

pub laid_take : {xs : List ℕ} {n : ℕ} {old now : List ℕ} → Laid xs n old now → length xs ≤ length old → take n now ≡ xs
laid_take {xs} {n} {old} {now} l h = rw (l.is, sets_front xs old h) (take_at xs (drop (length xs) old) n (sym l.long))

pub laid_seal : (start : ℕ) (inv : Bool) {xs : List ℕ} {n n' : ℕ} {old now now' : List ℕ} → Laid xs n old now → length xs ≤ length old
    → (n' ≡ n + 2) × (now' ≡ sets now n (bytes_of 2 (crc_with start inv (take n now)))) → Laid (framed_with start inv xs) n' old now'
unfolding framed_with
laid_seal start inv {xs} {n} {n'} {old} {now} {now'} l h e =
    laid_number 2 (crc_with start inv xs) l
    (e.0, e.1 ∙ ap (λ (t : List ℕ). sets now n (bytes_of 2 (crc_with start inv t))) (laid_take l h))

pub laid_done : {xs : List ℕ} {n : ℕ} {old now : List ℕ} → Laid xs n old now → length xs ≤ length old → now ≡ xs ++ drop (length xs) old
laid_done {xs} {n} {old} {now} l h = l.is ∙ sets_front xs old h

-- ---- a part of a body behind a front, sealed

-- the front that a buffer has already
laid_own : (n : ℕ) (old : List ℕ) → n ≤ length old → Laid (take n old) n old old
laid_own n old h = record { long = sym (length-take-le n old h); is = sym (sets_own old 0 n (omega arith)) }

-- what `seal_part` does, from its two calls
pub sealed_part : (n at k : ℕ) (b old : List ℕ) {mid fin : List ℕ} {m r : ℕ} → (at + k ≤ length b) × (n + k + 2 ≤ length old)
    → (m ≡ n + k) × (mid ≡ sets old n (take k (part at (at + k - at) b)))
    → (r ≡ m + 2) × (fin ≡ sets mid m (bytes_of 2 (crc_of (take m mid))))
    → (r ≡ n + k + 2) × (fin ≡ sets old 0 (framed (take n old ++ part at k b)))
sealed_part n at k b old h e f =
    let src = part at (at + k - at) b in
    let w : take k src ≡ part at k b = part_whole b at (at + k) k refl in
    let d : at + k - at ≡ k = omega arith in
    let q : k ≤ length src = rw (d, length_part at k b h.0) (omega arith) in
    let o : n ≤ length old = omega arith in
    let l = laid_bytes k src q (laid_own n old o) e in
    let t : length (take n old ++ take k src) ≤ length old = rw (length-append, length-take-le n old o, length-take-le k src q) (omega arith) in
    (omega arith, (laid_seal 0xFFFF true l t f).is ∙ ap (λ (x : List ℕ). sets old 0 (framed (take n old ++ x))) w)

-- and what its caller makes of it, who laid the front
pub laid_part : {xs : List ℕ} {n r k : ℕ} {old now fin : List ℕ} (ys : List ℕ) → Laid xs n old now → length xs ≤ length old → length ys ≡ k
    → (r ≡ n + k + 2) × (fin ≡ sets now 0 (framed (take n now ++ ys)))
    → Laid (framed (xs ++ ys)) r old fin
laid_part {xs} {n} {old = old} {now} {fin} ys l h g e =
    let f = framed (xs ++ ys) in
    let q : length f ≡ length (xs ++ ys) + 2 = length_framed 0xFFFF true (xs ++ ys) in
    let c : length xs ≤ length f = omega (arith, q, length-append xs ys) in
    let w : fin ≡ sets (sets old 0 xs) 0 f = e.1 ∙ rw (laid_take l h, l.is) in
    record {
      long = e.0 ∙ rw (q, length-append, l.long, g);
      is = w ∙ sets_over old xs f 0 c;
    }
