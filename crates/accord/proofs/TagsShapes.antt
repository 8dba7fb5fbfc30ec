-- What a content that passes its tests as blocks or locks is made of: 00 and pieces, each told of the lock and the bytes of a block that there can be.
-- Assumes nothing.
use Rattle.std.specs.Prelude.{if◌then◌else◌}
use mathlib.Core.Path.{◌≡◌, refl, sym, ap, ap₂, ◌∙◌}
use mathlib.Core.Bool.{Bool, true, false, ◌&&◌}
use mathlib.Core.List.{List, [], ◌∷◌, ◌++◌}
use Prim.Native.Nat.{ℕ, ◌+◌, ◌-◌, ◌*◌, ◌≤◌, ◌<◌}
use native.Mathlib.Omega.{arith}
use lib.Dec.{lit<, eqb, leb}
use lib.ListN.{length, get_or, drop, length-drop}
use lib.Seq.{drop-cons}
use borrow.Author.Tests.{eqb-true, leb-true}
use Rattle.frame.specs.Choose.{all_of, gather}
use Rattle.frame.specs.Number.{Bytes}
use Rattle.frame.proofs.Bools.{and_both}
use Rattle.frame.proofs.Lists.{window_all}
use Rattle.frame.proofs.Numbers.{bytes_drop}
use Rattle.frame.proofs.Gather.{gather_ext}
use Rattle.frame.proofs.AllOf.{all_at}
use Rattle.answer.specs.Answer.{block_of, piece_of, blocks_of, locks_of}
use Rattle.answer.proofs.AnswerPieces.{lock_at, lock_each, cut, piece, pieces_all, piece_long, piece_first, piece_bytes}
use Rattle.accord.proofs.AnswerRight.{NoRefusal, fits_both}
use Rattle.accord.proofs.TagsMade.{bytes_same}

-- what is told of a block: its lock with Option, and its bytes; or its lock alone
abbrev pub tell_block : Bool → ℕ → List ℕ → List ℕ
tell_block option lock s = (if option then lock ∷ [] else []) ++ s

abbrev pub tell_lock : ℕ → List ℕ → List ℕ
tell_lock lock s = lock ∷ []

pub record Shape (tell : ℕ → List ℕ → List ℕ) (count : ℕ) (s : List ℕ) : Type 0 where
  pub size : ℕ
  pub lock : ℕ → ℕ
  pub block : ℕ → List ℕ
  pub least : 1 ≤ size
  pub most : size ≤ 32
  pub low : (i : ℕ) → i < count → lock i ≤ 1
  pub bytes : (i : ℕ) → i < count → Bytes (block i)
  pub long : (i : ℕ) → i < count → length (block i) ≡ size
  pub is : 0 ∷ gather count (λ i. tell (lock i) (block i)) ≡ s

-- one block
pub block_shape : (option : Bool) (s : List ℕ) → Bytes s → NoRefusal (block_of option s) → Shape (tell_block option) 1 s
unfolding block_of gather
block_shape true s bs h =
    let e1 = fits_both (leb 3 (length s)) (leb (length s) 34 && (eqb (get_or s 0 0) 0 && leb (get_or s 1 0) 1)) _ h in
    let e2 = and_both (leb (length s) 34) (eqb (get_or s 0 0) 0 && leb (get_or s 1 0) 1) e1.1 in
    let e3 = and_both (eqb (get_or s 0 0) 0) (leb (get_or s 1 0) 1) e2.1 in
    let lo = leb-true 3 (length s) e1.0 in
    let hi = leb-true (length s) 34 e2.0 in
    let z = eqb-true (get_or s 0 0) 0 e3.0 in
    let l = length-drop 2 s in
    record {
      size = length (drop 2 s);
      lock = λ i. get_or s 1 0;
      block = λ i. drop 2 s;
      least = omega arith;
      most = omega arith;
      low = λ i k. leb-true (get_or s 1 0) 1 e3.1;
      bytes = λ i k. bytes_drop 2 s bs;
      long = λ i k. refl;
      is = sym (drop-cons s 0 0 (omega arith) ∙ ap₂ (λ (x : ℕ) (l : List ℕ). x ∷ l) z (drop-cons s 1 0 (omega arith)));
    }
block_shape false s bs h =
    let e1 = fits_both (leb 2 (length s)) (leb (length s) 33 && eqb (get_or s 0 0) 0) _ h in
    let e2 = and_both (leb (length s) 33) (eqb (get_or s 0 0) 0) e1.1 in
    let lo = leb-true 2 (length s) e1.0 in
    let hi = leb-true (length s) 33 e2.0 in
    let l = length-drop 1 s in
    record {
      size = length (drop 1 s);
      lock = λ i. 0;
      block = λ i. drop 1 s;
      least = omega arith;
      most = omega arith;
      low = λ i k. omega arith;
      bytes = λ i k. bytes_drop 1 s bs;
      long = λ i k. refl;
      is = sym (drop-cons s 0 0 (omega arith) ∙ ap (λ (x : ℕ). x ∷ drop 1 s) (eqb-true (get_or s 0 0) 0 e2.1));
    }

-- the first byte of each piece is a lock's
locks_low : (count k : ℕ) (s : List ℕ) → piece_of count s ≡ k → 1 ≤ k → all_of count (lock_at k s) ≡ true → (i : ℕ) → i < count
    → get_or (piece k s i) 0 0 ≤ 1
locks_low count k s e h z i l =
    let w = cut count k s e h in
    rw (piece_first count k s w h i l) at (leb-true (get_or s (1 + i * k) 0) 1 (all_at count (lock_at k s) z i l))

-- count blocks
pub blocks_shape : (option : Bool) (count : ℕ) (s : List ℕ) → Bytes s → NoRefusal (blocks_of option count s) → Shape (tell_block option) count s
unfolding blocks_of
blocks_shape true count s bs h =
    let k = piece_of count s in
    let e1 = fits_both (leb 2 k) (leb k 33 && all_of count (lock_at k s)) _ h in
    let e2 = and_both (leb k 33) (all_of count (lock_at k s)) e1.1 in
    let lo = leb-true 2 k e1.0 in
    let hi = leb-true k 33 e2.0 in
    let w = cut count k s refl (omega arith) in
    record {
      size = k - 1;
      lock = λ i. get_or (piece k s i) 0 0;
      block = λ i. drop 1 (piece k s i);
      least = omega arith;
      most = omega arith;
      low = locks_low count k s refl (omega arith) e2.1;
      bytes = λ i l. bytes_drop 1 (piece k s i) (piece_bytes k s i bs);
      long = λ i l. omega (arith, length-drop 1 (piece k s i), piece_long count k s w i l);
      is = ap (λ (x : List ℕ). 0 ∷ x)
          (gather_ext count _ (piece k s) (λ i l. sym (drop-cons (piece k s i) 0 0 (omega (arith, piece_long count k s w i l)))))
          ∙ pieces_all count k s w;
    }
blocks_shape false count s bs h =
    let k = piece_of count s in
    let e1 = fits_both (leb 1 k) (leb k 32) _ h in
    let lo = leb-true 1 k e1.0 in
    let w = cut count k s refl lo in
    record {
      size = k;
      lock = λ i. 0;
      block = piece k s;
      least = lo;
      most = leb-true k 32 e1.1;
      low = λ i l. omega arith;
      bytes = λ i l. piece_bytes k s i bs;
      long = piece_long count k s w;
      is = pieces_all count k s w;
    }

-- their locks alone: the blocks may be any
pub locks_shape : (count : ℕ) (s : List ℕ) → NoRefusal (locks_of count s) → Shape tell_lock count s
unfolding locks_of
locks_shape count s h =
    let t = all_of count (λ i. leb (get_or s (1 + i) 0) 1) in
    let e1 = fits_both (eqb (piece_of count s) 1) t _ h in
    let k = eqb-true (piece_of count s) 1 e1.0 in
    let w = cut count 1 s k (omega arith) in
    record {
      size = 1;
      lock = λ i. get_or (piece 1 s i) 0 0;
      block = λ i. 0 ∷ [];
      least = omega arith;
      most = omega arith;
      low = locks_low count 1 s k (omega arith) (sym (lock_each count s) ∙ e1.1);
      bytes = λ i l. bytes_same 1 0 (lit< tt);
      long = λ i l. refl;
      is = ap (λ (x : List ℕ). 0 ∷ x) (gather_ext count _ (piece 1 s) (λ i l. window_all 1 (piece 1 s i) (piece_long count 1 s w i l)))
          ∙ pieces_all count 1 s w;
    }
