-- What is gathered over indices. Each law of a gathered list is a law of one index, by induction on how many there are. Assumes nothing.
use mathlib.Core.Path.{◌≡◌, refl, sym, subst, ◌∙◌}
use mathlib.Core.Logic.{⊎_elim}
use mathlib.Core.List.{List, ◌++◌, append_assoc, append-nil}
use Prim.Native.Nat.{ℕ, zero, suc, ◌+◌, ◌-◌, ◌*◌, ◌≤◌, ◌<◌}
use native.Mathlib.Nat.{add-zero, add-suc, suc-mul, mul-le-mul_right, eq-or-lt_of_le}
use native.Mathlib.Omega.{arith}
use lib.ListN.{length, drop, length-append, length-drop}
use lib.Seq.{drop_at, take_all, drop-append-le, take-append-le}
use Rattle.frame.specs.Choose.{gather}
use Rattle.frame.specs.Number.{part, Bytes}
use Rattle.frame.proofs.Lists.{gather_none, gather_suc}
use Rattle.frame.proofs.Numbers.{bytes_append}

-- only the values below n count
pub gather_ext : {A : Type 0} (n : ℕ) (f g : ℕ → List A) → ((i : ℕ) → i < n → f i ≡ g i) → gather n f ≡ gather n g
gather_ext zero f g h = gather_none f ∙ sym (gather_none g)
gather_ext (suc n) f g h = rw (gather_suc n f, gather_suc n g, gather_ext n f g (λ i b. h i (omega arith)), h n (omega arith))

pub gather_split : {A : Type 0} (b a : ℕ) (f : ℕ → List A) → gather (a + b) f ≡ gather a f ++ gather b (λ t. f (a + t))
gather_split zero a f = rw (add-zero, gather_none, append-nil) refl
gather_split (suc b) a f = rw (add-suc, gather_suc, gather_suc, gather_split b a f) (append_assoc (gather a f) (gather b (λ t. f (a + t))) (f (a + b)))

pub gather_bytes : (n : ℕ) (g : ℕ → List ℕ) → ((i : ℕ) → i < n → Bytes (g i)) → Bytes (gather n g)
gather_bytes zero g h = rw gather_none (λ i. omega arith)
gather_bytes (suc n) g h = rw gather_suc (bytes_append (gather n g) (g n) (gather_bytes n g (λ i b. h i (omega arith))) (h n (omega arith)))

-- ---- how long

gather_grows : {A : Type 0} (n i : ℕ) (f : ℕ → List A) → length (gather i f) ≤ length (gather (i + n) f)
gather_grows zero i f = rw add-zero (omega arith)
gather_grows (suc n) i f = rw (add-suc, gather_suc, length-append) (omega (arith, gather_grows n i f))

pub gather_within : {A : Type 0} (i n : ℕ) (f : ℕ → List A) → i ≤ n → length (gather i f) ≤ length (gather n f)
gather_within i n f h =
    let e : i + (n - i) ≡ n = omega arith in
    subst (λ (k : ℕ). length (gather i f) ≤ length (gather k f)) e (gather_grows (n - i) i f)

-- k a place
pub gather_length : {A : Type 0} (k n : ℕ) (f : ℕ → List A) → ((i : ℕ) → i < n → length (f i) ≡ k) → length (gather n f) ≡ n * k
gather_length k zero f h = rw gather_none (omega arith)
gather_length k (suc n) f h =
    rw (gather_suc, length-append) (omega (arith, gather_length k n f (λ i b. h i (omega arith)), h n (omega arith), suc-mul n k))

-- ---- what stands at an index, k a place
pub gather_part : (k n i : ℕ) (f : ℕ → List ℕ) → ((j : ℕ) → j < n → length (f j) ≡ k) → i < n → part (i * k) k (gather n f) ≡ f i
gather_part k zero i f h l = absurd (omega arith)
gather_part k (suc n) i f h l =
    let x = gather n f in
    let long : length x ≡ n * k = gather_length k n f (λ j b. h j (omega arith)) in
    let here : length (f n) ≡ k = h n (omega arith) in
    let b : i ≤ n = omega arith in
    rw gather_suc
    (⊎_elim
    (λ (q : i ≡ n). rw (q, drop_at x (f n) (n * k) long) (take_all k (f n) (omega arith)))
    (λ (q : i < n).
    let g : suc i * k ≤ n * k = mul-le-mul_right k q in
    let w : i * k + k ≤ length x = omega (arith, suc-mul i k) in
    rw (drop-append-le (i * k) x (f n) (omega arith))
    (take-append-le k (drop (i * k) x) (f n) (omega (arith, length-drop (i * k) x)) ∙ gather_part k n i f (λ j c. h j (omega arith)) q))
    (eq-or-lt_of_le b))
