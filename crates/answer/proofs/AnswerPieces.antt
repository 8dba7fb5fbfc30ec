-- Pieces of one length behind 00, as a reader cuts an answer: what is gathered is cut again into its pieces, and what is cut is gathered again.
-- Assumes nothing.
use Rattle.std.specs.Prelude.{if◌then◌else◌}
use mathlib.Core.Path.{◌≡◌, refl, sym, ap, ◌∙◌}
use mathlib.Core.Bool.{Bool, true, false, ◌&&◌}
use mathlib.Core.List.{List, [], ◌∷◌, ◌++◌}
use Prim.Native.Nat.{ℕ, zero, suc, ◌+◌, ◌-◌, ◌*◌, ◌/◌, ◌≤◌, ◌<◌}
use native.Mathlib.Nat.{mul-div_cancel_left, mul-le-mul_right, zero-mul, suc-mul, mul-one}
use native.Mathlib.Omega.{arith}
use lib.Dec.{eqb, leb}
use lib.ListN.{length, get_or, take, drop, length-drop}
use lib.Seq.{take_all, take-add, drop-cons, get_or-append-add, get_or-take}
use borrow.Author.Tests.{le-leb, eq-eqb, eqb-true}
use Rattle.frame.specs.Choose.{all_of, gather}
use Rattle.frame.specs.Number.{part, Bytes}
use Rattle.frame.proofs.Bools.{and_both}
use Rattle.frame.proofs.Lists.{drop_head, gather_none, gather_suc}
use Rattle.frame.proofs.Numbers.{bytes_drop, bytes_part}
use Rattle.frame.proofs.Stores.{length_part}
use Rattle.frame.proofs.Gather.{gather_part}
use Rattle.frame.proofs.AllOf.{all_of_each, all_ext}
use Rattle.answer.specs.Answer.{piece_of}

-- whether piece j begins with a lock byte
abbrev pub lock_at : ℕ → List ℕ → ℕ → Bool
lock_at each c j = leb (get_or c (1 + j * each) 0) 1

-- .. of one byte each
pub lock_each : (count : ℕ) (c : List ℕ) → all_of count (λ i. leb (get_or c (1 + i) 0) 1) ≡ all_of count (lock_at 1 c)
lock_each count c = all_ext count _ _ (λ i l. ap (λ (k : ℕ). leb (get_or c (1 + k) 0) 1) (sym (mul-one i)))

-- ---- what is gathered

-- count pieces of k bytes
pub piece_is : (count k : ℕ) (x : List ℕ) → 1 ≤ count → length x ≡ count * k → piece_of count (0 ∷ x) ≡ k
unfolding piece_of
piece_is count k x h e =
    let q : (suc (length x) - 1) / count ≡ k =
    ap (λ (n : ℕ). n / count) (let z : suc (length x) - 1 ≡ count * k = omega arith in z) ∙ mul-div_cancel_left k h
    in
    rw (q, eq-eqb (suc (length x)) (1 + count * k) (omega arith))

-- the byte at the front of a piece
pub piece_front : (k n i : ℕ) (f : ℕ → List ℕ) → 1 ≤ k → ((j : ℕ) → j < n → length (f j) ≡ k) → i < n
    → get_or (0 ∷ gather n f) (1 + i * k) 0 ≡ get_or (f i) 0 0
piece_front k n i f h e l =
    let x = gather n f in
    get_or-append-add (0 ∷ []) x (i * k) 0
    ∙ sym (drop_head (i * k) x)
    ∙ sym (get_or-take k (drop (i * k) x) 0 0 h)
    ∙ ap (λ (s : List ℕ). get_or s 0 0) (gather_part k n i f e l)

-- .. is a lock's, of each
pub locks_told : (k n : ℕ) (f : ℕ → List ℕ) → 1 ≤ k → ((i : ℕ) → i < n → length (f i) ≡ k) → ((i : ℕ) → i < n → get_or (f i) 0 0 ≤ 1)
    → all_of n (lock_at k (0 ∷ gather n f)) ≡ true
locks_told k n f h e g = all_of_each n (lock_at k (0 ∷ gather n f)) (λ i l. le-leb (get_or (0 ∷ gather n f) (1 + i * k) 0) 1 (rw (piece_front k n i f h e l) (g i l)))

-- ---- what is cut

-- some bytes are their pieces, one behind the other
cut_all : (k n : ℕ) (x : List ℕ) → n * k ≤ length x → gather n (λ i. part (i * k) k x) ≡ take (n * k) x
cut_all k zero x h = gather_none (λ i. part (i * k) k x) ∙ rw zero-mul refl
cut_all k (suc n) x h =
    let e = suc-mul n k in
    gather_suc n (λ i. part (i * k) k x)
    ∙ ap (λ (s : List ℕ). s ++ part (n * k) k x) (cut_all k n x (omega arith))
    ∙ sym (take-add (n * k) k x)
    ∙ ap (λ (m : ℕ). take m x) (sym e)

-- c is 00 and count pieces of k bytes
pub record Cut (count k : ℕ) (c : List ℕ) : Type 0 where
  pub is : 0 ∷ drop 1 c ≡ c
  pub long : length (drop 1 c) ≡ count * k

pub cut : (count k : ℕ) (c : List ℕ) → piece_of count c ≡ k → 1 ≤ k → Cut count k c
unfolding piece_of
cut count k c i h = go (eqb (get_or c 0 0) 0 && eqb (length c) (1 + count * q)) refl i
  where
    q : ℕ
    q = (length c - 1) / count

    go : (t : Bool) → (eqb (get_or c 0 0) 0 && eqb (length c) (1 + count * q)) ≡ t → (if t then q else 0) ≡ k → Cut count k c
    go true e l =
        let a = and_both (eqb (get_or c 0 0) 0) (eqb (length c) (1 + count * q)) e in
        let z = eqb-true (length c) (1 + count * q) a.1 in
        record {
          is = sym (drop-cons c 0 0 (omega arith) ∙ ap (λ (x : ℕ). x ∷ drop 1 c) (eqb-true (get_or c 0 0) 0 a.0));
          long = rw (← l) (omega (arith, length-drop 1 c));
        }
    go false e l = absurd (omega arith)

-- so the bytes of the pieces are there
pub piece_all : (count k : ℕ) (c : List ℕ) → k ≡ piece_of count c → 1 ≤ k → 1 + count * k ≤ length c
piece_all count k c e h =
    let w = cut count k c (sym e) h in
    omega (arith, w.long, ap length w.is)

-- its pieces
unfoldable pub piece : ℕ → List ℕ → ℕ → List ℕ
piece k c i = part (i * k) k (drop 1 c)

module _ (count k : ℕ) (c : List ℕ) (w : Cut count k c) where
  pub pieces_all : 0 ∷ gather count (piece k c) ≡ c
  unfolding piece
  pieces_all =
      let x = drop 1 c in
      ap (λ (s : List ℕ). 0 ∷ s) (cut_all k count x (omega (arith, w.long)) ∙ take_all (count * k) x (omega (arith, w.long))) ∙ w.is

  pub piece_long : (i : ℕ) → i < count → length (piece k c i) ≡ k
  unfolding piece
  piece_long i l =
      let g : suc i * k ≤ count * k = mul-le-mul_right k l in
      length_part (i * k) k (drop 1 c) (omega (arith, suc-mul i k, w.long))

  pub piece_first : 1 ≤ k → (i : ℕ) → i < count → get_or c (1 + i * k) 0 ≡ get_or (piece k c i) 0 0
  piece_first h i l = ap (λ (s : List ℕ). get_or s (1 + i * k) 0) (sym pieces_all) ∙ piece_front k count i (piece k c) h piece_long l

pub piece_bytes : (k : ℕ) (c : List ℕ) (i : ℕ) → Bytes c → Bytes (piece k c i)
unfolding piece
piece_bytes k c i bs = bytes_part (i * k) k (drop 1 c) (bytes_drop 1 c bs)
