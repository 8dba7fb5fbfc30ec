-- Bytes and numbers, there and back, over any width: a number below 256 ^ k is k digits to base 256, by induction on the bytes.
-- Assumes nothing.
use mathlib.Core.Path.{◌≡◌, refl, sym, ap, ap₂, ◌∙◌, subst}
use mathlib.Core.List.{List, [], ◌∷◌, ◌++◌, append-nil, append_assoc}
use Prim.Native.Nat.{ℕ, zero, suc, ◌+◌, ◌*◌, ◌/◌, ◌%◌, ◌^◌, ◌≤◌, ◌<◌}
use native.Mathlib.Nat.{zero-lt-suc, pow-suc, mod-one, mod-lt, mod-eq_of_lt, add_comm}
use native.Mathlib.Omega.{arith}
use lib.Arith.{mod-mul}
use lib.Dec.{lit<}
use lib.ListN.{length, take, drop, length-append, length-take}
use lib.Seq.{get_or-drop, drop_at}
use Rattle.frame.specs.Number.{num, bytes_of, part, Bytes}

-- ---- lists of bytes

pub bytes_take : (n : ℕ) (s : List ℕ) → Bytes s → Bytes (take n s)
bytes_take zero s h i = lit< tt
bytes_take (suc n) [] h i = lit< tt
bytes_take (suc n) (x ∷ s) h zero = h 0
bytes_take (suc n) (x ∷ s) h (suc i) = bytes_take n s (λ j. h (suc j)) i

pub bytes_drop : (i : ℕ) (s : List ℕ) → Bytes s → Bytes (drop i s)
bytes_drop i s h j = rw (get_or-drop i s j 0) (h (i + j))

pub bytes_part : (at k : ℕ) (s : List ℕ) → Bytes s → Bytes (part at k s)
bytes_part at k s h = bytes_take k (drop at s) (bytes_drop at s h)

pub bytes_append : (s t : List ℕ) → Bytes s → Bytes t → Bytes (s ++ t)
bytes_append [] t hs ht i = ht i
bytes_append (x ∷ s) t hs ht zero = hs 0
bytes_append (x ∷ s) t hs ht (suc i) = bytes_append s t (λ j. hs (suc j)) ht i

-- the bytes of a number are bytes, and k of them
pub bytes_small : (k v : ℕ) → Bytes (bytes_of k v)
bytes_small zero v i = lit< tt
bytes_small (suc k) v zero = mod-lt v (zero-lt-suc 255)
bytes_small (suc k) v (suc i) = bytes_small k (v / 256) i

pub length_bytes : (k v : ℕ) → length (bytes_of k v) ≡ k
length_bytes zero v = refl
length_bytes (suc k) v = ap suc (length_bytes k (v / 256))

-- ---- the number of some bytes

pos : (k : ℕ) → 0 < 256 ^ k
pos zero = zero-lt-suc 0
pos (suc k) = let h : 0 < 256 ^ k = pos k in rw (pow-suc 256 k) (omega arith)

pub num_lt : (k : ℕ) (s : List ℕ) → Bytes s → length s ≤ k → num s < 256 ^ k
num_lt k [] h l = pos k
num_lt zero (b ∷ s) h l = absurd (omega arith)
num_lt (suc k) (b ∷ s) h l =
    let x : b < 256 = h 0 in
    let y : num s < 256 ^ k = num_lt k s (λ i. h (suc i)) (omega arith) in
    rw (pow-suc 256 k) (omega arith)

-- equal numbers have equal bytes
pub num_inj : (u v : List ℕ) → Bytes u → Bytes v → length u ≡ length v → num u ≡ num v → u ≡ v
num_inj [] [] hu hv l e = refl
num_inj [] (y ∷ v) hu hv l e = absurd (omega arith)
num_inj (x ∷ u) [] hu hv l e = absurd (omega arith)
num_inj (x ∷ u) (y ∷ v) hu hv l e =
    let bx : x < 256 = hu 0 in
    let by : y < 256 = hv 0 in
    let p : x ≡ y = omega arith in
    let q : num u ≡ num v = omega arith in
    ap₂ ◌∷◌ p (num_inj u v (λ i. hu (suc i)) (λ i. hv (suc i)) (omega arith) q)

-- ---- there and back

pub num_bytes : (k n : ℕ) → num (bytes_of k n) ≡ n % 256 ^ k
num_bytes zero n = sym (mod-one n)
num_bytes (suc k) n =
    ap (λ (x : ℕ). n % 256 + x * 256) (num_bytes k (n / 256))
    ∙ add_comm (n % 256) (n / 256 % 256 ^ k * 256)
    ∙ sym (mod-mul n (pos k) (zero-lt-suc 255))
    ∙ ap (λ (x : ℕ). n % x) (sym (pow-suc 256 k))

pub num_bytes_lt : (k n : ℕ) → n < 256 ^ k → num (bytes_of k n) ≡ n
num_bytes_lt k n h = num_bytes k n ∙ mod-eq_of_lt h

pub bytes_num : (s : List ℕ) → Bytes s → bytes_of (length s) (num s) ≡ s
bytes_num s h =
    num_inj (bytes_of (length s) (num s)) s (bytes_small (length s) (num s)) h (length_bytes (length s) (num s))
    (num_bytes_lt (length s) (num s) (num_lt (length s) s h (omega arith)))

-- ---- a loop from the last byte to the first: some bytes are left, and n is the number of those behind them

pub record Behind (s left : List ℕ) (n : ℕ) : Type 0 where
  pub done : List ℕ
  pub whole : s ≡ left ++ done
  pub is : n ≡ num done

pub behind_none : {s left : List ℕ} → left ≡ s → Behind s left 0
behind_none {s} {left} e = record { done = []; whole = sym (append-nil left ∙ e); is = refl }

pub behind_lt : {s left : List ℕ} {n : ℕ} (more : List ℕ) (b : ℕ) → Bytes s → length s ≤ 8 → Behind s left n → left ≡ more ++ b ∷ [] → n < 2 ^ 56
behind_lt {s} {left} {n} more b h l v e =
    let w : length s ≡ length more + 1 + length v.done = ap length v.whole ∙ simp (length-append, e) in
    let d : drop (length left) s ≡ v.done = rw v.whole (drop_at left v.done (length left) refl) in
    subst (λ (x : ℕ). x < 2 ^ 56) (sym v.is) (num_lt 7 v.done (subst Bytes d (bytes_drop (length left) s h)) (omega arith))

pub behind_more : {s left more : List ℕ} {n b x : ℕ} → Behind s left n → left ≡ more ++ b ∷ [] → x ≡ b → Behind s more (n * 256 + x)
behind_more {s} {left} {more} {n} {b} {x} v e f =
    record {
      done = b ∷ v.done;
      whole = v.whole ∙ rw (e, append_assoc);
      is = rw (v.is, f, add_comm);
    }

pub behind_all : {s left : List ℕ} {n : ℕ} → Behind s left n → length left ≡ 0 → n ≡ num s
behind_all {s} {left = []} {n} v e = v.is ∙ ap num (sym v.whole)
behind_all {s} {left = b ∷ left} {n} v e = absurd (omega arith)

-- four bytes make a number below 2 ^ 32
pub word_lt : (at : ℕ) (s : List ℕ) → Bytes s → num (part at 4 s) < 2 ^ 32
word_lt at s h = num_lt 4 (part at 4 s) (bytes_part at 4 s h) (rw (length-take 4 (drop at s)) (omega arith))
