-- A well-formed label made to order: UID, DSFID, AFI, number of blocks, IC reference, the lock and the bytes of each block; selected.
-- Its first 32 bytes are spelt out, so what they hold computes; behind them locks and blocks are gathered by the block's number.
-- Assumes nothing.
use mathlib.Core.Path.{◌≡◌, refl, sym, ap, ap₂, subst, ◌∙◌}
use mathlib.Core.List.{List, [], ◌∷◌, ◌++◌, append_assoc, append-nil}
use Prim.Native.Nat.{ℕ, zero, suc, ◌+◌, ◌-◌, ◌*◌, ◌≤◌, ◌<◌}
use native.Mathlib.Nat.{suc-mul, mul-le-mul_right}
use native.Mathlib.Numerals.{add-one}
use native.Mathlib.Omega.{arith}
use lib.Dec.{lit<}
use lib.ListN.{length, get_or, drop, replicate, length-append, length-drop}
use lib.Seq.{take-append-le, drop-append-le, drop-append-add, get_or-append-add}
use Rattle.frame.specs.Choose.{gather}
use Rattle.frame.specs.Number.{part, Bytes}
use Rattle.frame.proofs.Lists.{window, window_all}
use Rattle.frame.proofs.Numbers.{bytes_append}
use Rattle.frame.proofs.Stores.{bytes_cons}
use Rattle.frame.proofs.Gather.{gather_length, gather_bytes, gather_part}
use Rattle.label_body.specs.Locks.{lock_on, lock_room}
use Rattle.label_body.specs.Body.{Sized, size_of, block_at}
use Rattle.label_body.proofs.LocksLaws.{lock_run, run_length, run_bytes, run_room, run_lock, run_fine}
use Rattle.label_body.specs.Facts.{LabelFine}

-- ---- lists of bytes

pub bytes_none : Bytes []
bytes_none i = lit< tt

pub bytes_same : (n x : ℕ) → x < 256 → Bytes (replicate n x)
bytes_same zero x h = bytes_none
bytes_same (suc n) x h = bytes_cons x (replicate n x) h (bytes_same n x h)

-- ---- pieces of one length

-- one of them, behind some bytes p and before some bytes q
pub gathered_part : (p : List ℕ) (k n i : ℕ) (f : ℕ → List ℕ) (q : List ℕ) (at : ℕ) → ((j : ℕ) → j < n → length (f j) ≡ k) → i < n
    → at ≡ length p + i * k → part at k (p ++ (gather n f ++ q)) ≡ f i
gathered_part p k n i f q at e l z =
    let x = gather n f in
    let g : suc i * k ≤ n * k = mul-le-mul_right k l in
    let w : i * k + k ≤ length x = omega (arith, suc-mul i k, gather_length k n f e) in
    rw (z, drop-append-add p (x ++ q) (i * k), drop-append-le (i * k) x q (omega arith))
    (take-append-le k (drop (i * k) x) q (omega (arith, length-drop (i * k) x)) ∙ gather_part k n i f e l)

-- ---- the label

abbrev front : List ℕ → ℕ → ℕ → ℕ → ℕ → ℕ → List ℕ
front u dsfid afi last size ic = window 8 0 u ++ (dsfid ∷ afi ∷ 0 ∷ last ∷ size ∷ ic ∷ 3 ∷ 255 ∷ 0 ∷ replicate 8 0)

abbrev head : List ℕ → ℕ → ℕ → ℕ → ℕ → ℕ → List ℕ
head u dsfid afi last size ic = front u dsfid afi last size ic ++ replicate 7 0

-- lock and block tell what each block has, by its number; size is how many bytes
unfoldable pub made : List ℕ → ℕ → ℕ → ℕ → ℕ → ℕ → (ℕ → ℕ) → (ℕ → List ℕ) → List ℕ
made u dsfid afi last ic size lock block = head u dsfid afi last (size - 1) ic ++ (lock_run last lock ++ gather (suc last) block)

-- what it holds
pub record Body (b u : List ℕ) (dsfid afi last ic size : ℕ) (lock : ℕ → ℕ) (block : ℕ → List ℕ) : Type 0 where
  pub bytes : Bytes b
  pub ok : LabelFine b
  pub uid : part 0 8 b ≡ u
  pub dsfids : get_or b 8 0 ≡ dsfid
  pub afis : get_or b 9 0 ≡ afi
  pub locks : get_or b 10 0 ≡ 0
  pub blocks : get_or b 11 0 ≡ last
  pub sizes : get_or b 12 0 + 1 ≡ size
  pub ics : get_or b 13 0 ≡ ic
  pub state : get_or b 14 0 ≡ 3
  pub locked : (n : ℕ) → n ≤ last → lock_on n b ≡ lock n
  pub held : (n : ℕ) → n ≤ last → part (block_at b n) (size_of b) b ≡ block n

-- the same element, before some others
same_at : (n j x : ℕ) (q : List ℕ) → j < n → get_or (replicate n x ++ q) j 0 ≡ x
same_at zero j x q h = absurd (omega arith)
same_at (suc n) zero x q h = refl
same_at (suc n) (suc j) x q h = same_at n j x q (omega arith)

module _ (u : List ℕ) (dsfid afi last ic size : ℕ) (lock : ℕ → ℕ) (block : ℕ → List ℕ) (hu : length u ≡ 8) (bu : Bytes u) (hd : dsfid < 256)
    (ha : afi < 256) (hl : last < 256) (hi : ic < 256) (lo : 1 ≤ size) (hi32 : size ≤ 32) (hk : (i : ℕ) → i ≤ last → lock i ≤ 1)
    (bs : (i : ℕ) → i ≤ last → Bytes (block i)) (ls : (i : ℕ) → i ≤ last → length (block i) ≡ size) where
  abbrev b : List ℕ
  b = made u dsfid afi last ic size lock block

  abbrev h : List ℕ
  h = head u dsfid afi last (size - 1) ic

  abbrev blocks : List ℕ
  blocks = gather (suc last) block

  abbrev rest : List ℕ
  rest = lock_run last lock ++ blocks

  head_bytes : Bytes h
  head_bytes =
      let k = size - 1 in
      let z : List ℕ = replicate 8 0 in
      bytes_append (front u dsfid afi last k ic) (replicate 7 0)
      (bytes_append (window 8 0 u) (dsfid ∷ afi ∷ 0 ∷ last ∷ k ∷ ic ∷ 3 ∷ 255 ∷ 0 ∷ z) (subst Bytes (sym (window_all 8 u hu)) bu)
      (bytes_cons dsfid (afi ∷ 0 ∷ last ∷ k ∷ ic ∷ 3 ∷ 255 ∷ 0 ∷ z) hd
      (bytes_cons afi (0 ∷ last ∷ k ∷ ic ∷ 3 ∷ 255 ∷ 0 ∷ z) ha
      (bytes_cons 0 (last ∷ k ∷ ic ∷ 3 ∷ 255 ∷ 0 ∷ z) (lit< tt)
      (bytes_cons last (k ∷ ic ∷ 3 ∷ 255 ∷ 0 ∷ z) hl
      (bytes_cons k (ic ∷ 3 ∷ 255 ∷ 0 ∷ z) (omega arith)
      (bytes_cons ic (3 ∷ 255 ∷ 0 ∷ z) hi
      (bytes_cons 3 (255 ∷ 0 ∷ z) (lit< tt)
      (bytes_cons 255 (0 ∷ z) (lit< tt)
      (bytes_cons 0 z (lit< tt) (bytes_same 8 0 (lit< tt))))))))))))
      (bytes_same 7 0 (lit< tt))

  made_bytes : Bytes b
  unfolding made
  made_bytes =
      bytes_append h rest head_bytes
      (bytes_append (lock_run last lock) blocks (run_bytes last lock hk) (gather_bytes (suc last) block (λ i l. bs i (omega arith))))

  made_length : length b ≡ 32 + lock_room b + (last + 1) * size
  unfolding made
  made_length =
      let l : length rest ≡ lock_room b + suc last * size =
      length-append (lock_run last lock) blocks
      ∙ ap₂ ◌+◌ (run_length last lock ∙ sym (run_room last b refl)) (gather_length size (suc last) block (λ i l. ls i (omega arith)))
      in
      length-append h rest ∙ omega (arith, l, ap (λ (x : ℕ). x * size) (add-one last))

  made_lock : (n : ℕ) → n ≤ last → lock_on n b ≡ lock n
  unfolding made
  made_lock n l = run_lock last lock hk h blocks refl n l

  made_zero : (j : ℕ) → j < 7 → get_or b (25 + j) 0 ≡ 0
  unfolding made
  made_zero j l = get_or-append-add (front u dsfid afi last (size - 1) ic) (replicate 7 0 ++ rest) j 0 ∙ same_at 7 j 0 rest l

  size_is : size - 1 + 1 ≡ size
  size_is = omega arith

  made_block : (n : ℕ) → n ≤ last → part (block_at b n) (size_of b) b ≡ block n
  unfolding made block_at
  made_block n l =
      let q = lock_run last lock in
      let e : h ++ (q ++ blocks) ≡ (h ++ q) ++ (blocks ++ []) =
      ap (λ (x : List ℕ). h ++ (q ++ x)) (sym (append-nil blocks)) ∙ sym (append_assoc h q (blocks ++ []))
      in
      let k : length (h ++ q) ≡ 32 + lock_room b = length-append h q ∙ ap (λ (x : ℕ). 32 + x) (run_length last lock ∙ sym (run_room last b refl)) in
      let at = 32 + lock_room b + n * (size - 1 + 1) in
      let w : at ≡ length (h ++ q) + n * size = omega (arith, k, ap (λ (x : ℕ). n * x) size_is) in
      ap₂ (λ (x : ℕ) (y : List ℕ). part at x y) size_is e
      ∙ gathered_part (h ++ q) size (suc last) n block [] at (λ i j. ls i (omega arith)) (omega arith) w

  made_fine : LabelFine b
  unfolding made Sized
  made_fine =
      record {
        locks = omega arith;
        sized = made_length ∙ ap (λ (x : ℕ). 32 + lock_room b + (last + 1) * x) (sym size_is);
        size = omega arith;
        state = omega arith;
        slot = λ z. absurd (z refl);
        ready = λ z. absurd (z refl);
        idle = λ z. refl;
        bits = omega arith;
        mask = lit< tt;
        zeros = λ j l. omega (arith, made_zero j l);
        locked = run_fine last lock hk h blocks refl refl;
      }

  pub made_body : Body b u dsfid afi last ic size lock block
  unfolding made
  made_body =
      record {
        bytes = made_bytes;
        ok = made_fine;
        uid = window_all 8 u hu;
        dsfids = refl;
        afis = refl;
        locks = refl;
        blocks = refl;
        sizes = size_is;
        ics = refl;
        state = refl;
        locked = made_lock;
        held = made_block;
      }
