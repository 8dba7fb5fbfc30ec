-- The locks of a body's blocks: what a lock reads, what locking one leaves, the rules told and kept. Every law above goes by these and none unfolds a lock.
-- Assumes nothing.
use mathlib.Core.Path.{◌≡◌, refl, ap, sym, ◌∙◌}
use mathlib.Core.Logic.{⊎_elim}
use mathlib.Core.List.{List, [], ◌∷◌, ◌++◌, append_assoc}
use Prim.Native.Nat.{ℕ, zero, suc, ◌+◌, ◌≤◌, ◌<◌}
use native.Mathlib.Nat.{eq-or-lt_of_le}
use native.Mathlib.Omega.{arith}
use lib.Dec.{ltb, lit<}
use lib.ListN.{length, get_or, set, drop, length-set, length-drop}
use lib.Seq.{get_or-set_same, get_or-set_other, get_or-append-add, get_or_at, get_or-drop, take-suc}
use Rattle.frame.specs.Choose.{gather}
use Rattle.frame.specs.Number.{part, Bytes}
use Rattle.std.specs.Prelude.{Ok, Err}
use Rattle.frame.specs.Judge.{Verdict, fine, or_else, first_of, byte_verdict}
use Rattle.frame.proofs.Bools.{if_both}
use Rattle.frame.proofs.Lists.{gather_none, gather_suc}
use Rattle.frame.proofs.Gather.{gather_bytes, gather_length}
use Rattle.frame.proofs.Stores.{bytes_cons, bytes_set}
use Rattle.frame.proofs.Judge.{first_none, first_suc, bytes_fine, bytes_good}
use Rattle.label_body.specs.Locks.{lock_room, lock_on, with_lock, locks_verdict, LocksFine}

-- ---- how many bytes

pub room_same : (b c : List ℕ) → get_or c 11 0 ≡ get_or b 11 0 → lock_room c ≡ lock_room b
unfolding lock_room
room_same b c e = rw e

pub room_some : (b : List ℕ) → 1 ≤ lock_room b
unfolding lock_room
room_some b = omega arith

-- the bytes of the locks are the same
abbrev pub Kept : List ℕ → List ℕ → Type 0
Kept b c = (j : ℕ) → 32 ≤ j → j < 32 + lock_room b → get_or c j 0 ≡ get_or b j 0

-- ---- what a lock reads

pub lock_above : (n : ℕ) (b c : List ℕ) → ((j : ℕ) → 32 ≤ j → get_or c j 0 ≡ get_or b j 0) → lock_on n c ≡ lock_on n b
unfolding lock_on
lock_above n b c h = h (32 + n) (omega arith)

pub lock_same : (n : ℕ) (b c : List ℕ) → n ≤ get_or b 11 0 → Kept b c → lock_on n c ≡ lock_on n b
unfolding lock_on lock_room
lock_same n b c l h = h (32 + n) (omega arith) (omega arith)

pub fine_same : (b c : List ℕ) → get_or c 11 0 ≡ get_or b 11 0 → Kept b c → LocksFine b → LocksFine c
unfolding LocksFine lock_room
fine_same b c e h f j l = let g : j < get_or b 11 0 + 1 = omega (arith, e) in rw (h (32 + j) (omega arith) (omega arith)) (f j g)

pub lock_one : (n : ℕ) (b : List ℕ) → LocksFine b → n ≤ get_or b 11 0 → lock_on n b ≤ 1
unfolding LocksFine lock_on
lock_one n b f l = f n (omega arith)

lock_there : (b : List ℕ) (n k : ℕ) → get_or b (32 + n + k) 0 ≡ lock_on (n + k) b
unfolding lock_on
lock_there b n k = ap (λ (m : ℕ). get_or b m 0) (omega arith)

-- the locks of block n and of those behind it stand side by side
pub locks_part : (b : List ℕ) (n k : ℕ) → 32 + n + k ≤ length b → gather k (λ i. lock_on (n + i) b ∷ []) ≡ part (32 + n) k b
locks_part b n zero h = gather_none (λ i. lock_on (n + i) b ∷ [])
locks_part b n (suc k) h =
    let s = drop (32 + n) b in
    let l : k < length s = omega (arith, length-drop (32 + n) b) in
    let e : get_or s k 0 ≡ lock_on (n + k) b = get_or-drop (32 + n) b k 0 ∙ lock_there b n k in
    gather_suc k (λ i. lock_on (n + i) b ∷ []) ∙ rw (locks_part b n k (omega arith), ← e) (sym (take-suc s k 0 l))

-- ---- what locking a block leaves

pub with_length : (n : ℕ) (b : List ℕ) → length (with_lock n b) ≡ length b
unfolding with_lock
with_length n b = length-set b (32 + n) 1

pub with_below : (n : ℕ) (b : List ℕ) (j : ℕ) → j < 32 → get_or (with_lock n b) j 0 ≡ get_or b j 0
unfolding with_lock
with_below n b j h = get_or-set_other b (32 + n) j 1 0 (λ e. omega arith)

pub with_behind : (n : ℕ) (b : List ℕ) (j : ℕ) → n ≤ get_or b 11 0 → 32 + lock_room b ≤ j → get_or (with_lock n b) j 0 ≡ get_or b j 0
unfolding with_lock lock_room
with_behind n b j l h = get_or-set_other b (32 + n) j 1 0 (λ e. omega arith)

pub with_bytes : (n : ℕ) (b : List ℕ) → Bytes b → Bytes (with_lock n b)
unfolding with_lock
with_bytes n b f = bytes_set b (32 + n) 1 f (omega arith)

pub with_own : (n : ℕ) (b : List ℕ) → n ≤ get_or b 11 0 → 32 + lock_room b ≤ length b → lock_on n (with_lock n b) ≡ 1
unfolding with_lock lock_room lock_on
with_own n b l h = get_or-set_same b (32 + n) 1 0 (omega arith)

pub with_other : (n m : ℕ) (b : List ℕ) → (n ≡ m → ⊥) → lock_on n (with_lock m b) ≡ lock_on n b
unfolding with_lock lock_on
with_other n m b d = get_or-set_other b (32 + m) (32 + n) 1 0 (λ e. d (omega arith))

-- a store keeps a bound that it keeps itself
set_le : (b : List ℕ) (i x m j : ℕ) → x ≤ m → get_or b j 0 ≤ m → get_or (set b i x) j 0 ≤ m
set_le [] i x m j h g = g
set_le (y ∷ ys) zero x m zero h g = h
set_le (y ∷ ys) zero x m (suc j) h g = g
set_le (y ∷ ys) (suc i) x m zero h g = g
set_le (y ∷ ys) (suc i) x m (suc j) h g = set_le ys i x m j h g

pub with_fine : (n : ℕ) (b : List ℕ) → Bytes b → n ≤ get_or b 11 0 → LocksFine b → LocksFine (with_lock n b)
unfolding with_lock LocksFine
with_fine n b s l f j h = set_le b (32 + n) 1 1 (32 + j) (omega arith) (f j (omega (arith, get_or-set_other b (32 + n) 11 1 0 (λ e. omega arith))))

-- ---- the rules

pub locks_tell : (b : List ℕ) → locks_verdict b ≡ fine → LocksFine b
unfolding locks_verdict LocksFine
locks_tell b e = bytes_fine b 32 1 (get_or b 11 0 + 1) e

pub locks_keep : (b : List ℕ) → LocksFine b → locks_verdict b ≡ fine
unfolding locks_verdict LocksFine
locks_keep b f = bytes_good b 32 1 (get_or b 11 0 + 1) f

-- the offence, where there is one, is at place k or before it
abbrev pub Within : ℕ → Verdict → Type 0
Within k (Ok u) = Unit
Within k (Err o) = o.place ≤ k

pub else_place : (k : ℕ) (v w : Verdict) → Within k v → Within k w → Within k (or_else v w)
else_place k (Ok u) w h g = g
else_place k (Err o) w h g = h

pub first_place : (f : ℕ → Verdict) (k n : ℕ) → ((i : ℕ) → i < n → Within k (f i)) → Within k (first_of n f)
first_place f k zero h = rw (first_none f) tt
first_place f k (suc n) h =
    rw (first_suc f n) (else_place k (first_of n f) (f n) (first_place f k n (λ i l. h i (omega arith))) (h n (omega arith)))

pub byte_place : (b : List ℕ) (at most j k : ℕ) → at + j ≤ k → Within k (byte_verdict b at most j)
unfolding byte_verdict
byte_place b at most j k h = if_both (Within k) (ltb most (get_or b (at + j) 0)) h tt

pub locks_place : (b : List ℕ) (k : ℕ) → 32 + lock_room b ≤ k → Within k (locks_verdict b)
unfolding locks_verdict lock_room
locks_place b k h = first_place (byte_verdict b 32 1) k (get_or b 11 0 + 1) (λ i l. byte_place b 32 1 i k (omega arith))

-- ---- the locks of a body that is made, by the number of the block

-- the bytes of the locks of blocks 0 to last
unfoldable pub lock_run : ℕ → (ℕ → ℕ) → List ℕ
lock_run last lock = gather (suc last) (λ i. lock i ∷ [])

-- how many bytes they are
unfoldable pub run_size : ℕ → ℕ
run_size last = suc last

run_long : (n : ℕ) (lock : ℕ → ℕ) → length (gather n (λ i. lock i ∷ [])) ≡ n
run_long n lock = gather_length 1 n (λ i. lock i ∷ []) (λ i l. refl) ∙ omega arith

pub run_length : (last : ℕ) (lock : ℕ → ℕ) → length (lock_run last lock) ≡ run_size last
unfolding lock_run run_size
run_length last lock = run_long (suc last) lock

pub run_room : (last : ℕ) (b : List ℕ) → get_or b 11 0 ≡ last → lock_room b ≡ run_size last
unfolding lock_room run_size
run_room last b e = omega (arith, e)

run_at : (n j : ℕ) (lock : ℕ → ℕ) (q : List ℕ) → j < n → get_or (gather n (λ i. lock i ∷ []) ++ q) j 0 ≡ lock j
run_at zero j lock q h = absurd (omega arith)
run_at (suc n) j lock q h =
    let x = gather n (λ i. lock i ∷ []) in
    let b : j ≤ n = omega arith in
    rw (gather_suc n (λ i. lock i ∷ []), append_assoc x (lock n ∷ []) q)
    (⊎_elim
    (λ (e : j ≡ n). rw e (get_or_at x (lock n) q 0 n (run_long n lock)))
    (λ (l : j < n). run_at n j lock (lock n ∷ q) l)
    (eq-or-lt_of_le b))

-- locks, 0 or 1 each
module _ (last : ℕ) (lock : ℕ → ℕ) (k : (i : ℕ) → i ≤ last → lock i ≤ 1) where
  pub run_bytes : Bytes (lock_run last lock)
  unfolding lock_run
  run_bytes = gather_bytes (suc last) (λ i. lock i ∷ []) (λ i l. bytes_cons (lock i) [] (omega (arith, k i (omega arith))) (λ j. lit< tt))

  -- behind 32 bytes and before others
  module _ (h q : List ℕ) (e : length h ≡ 32) where
    run_byte : (j : ℕ) → j ≤ last → get_or (h ++ (gather (suc last) (λ i. lock i ∷ []) ++ q)) (32 + j) 0 ≡ lock j
    run_byte j l =
        let r = gather (suc last) (λ i. lock i ∷ []) ++ q in
        ap (λ (m : ℕ). get_or (h ++ r) (m + j) 0) (sym e) ∙ get_or-append-add h r j 0 ∙ run_at (suc last) j lock q (omega arith)

    pub run_lock : (n : ℕ) → n ≤ last → lock_on n (h ++ (lock_run last lock ++ q)) ≡ lock n
    unfolding lock_on lock_run
    run_lock n l = run_byte n l

    pub run_fine : get_or (h ++ (lock_run last lock ++ q)) 11 0 ≡ last → LocksFine (h ++ (lock_run last lock ++ q))
    unfolding LocksFine lock_run
    run_fine f j l = let i : j ≤ last = omega (arith, f) in omega (arith, run_byte j i, k j i)
