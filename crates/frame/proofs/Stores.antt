-- Stores and parts: what a run of stores leaves and what it fills. Each law walks along the run, one `set` at a time; parts are compared by their
-- elements, so what holds of each element that a run does not reach holds of each part that it does not reach.
-- Assumes nothing.
use mathlib.Core.Path.{◌≡◌, refl, sym, ap, ◌∙◌}
use mathlib.Core.Logic.{◌⊎◌, inl, inr}
use mathlib.Core.List.{List, [], ◌∷◌, ◌++◌, append_assoc}
use Prim.Native.Nat.{ℕ, zero, suc, ◌+◌, ◌-◌, ◌≤◌, ◌<◌}
use native.Mathlib.Nat.{add-zero, add-suc, suc-add}
use native.Mathlib.Omega.{arith}
use lib.Dec.{lit<}
use lib.ListN.{length, get_or, take, drop, set, length-set, length-take, length-drop, take-append-drop}
use lib.Seq.{sets, sets-eq, length-sets, get_or-set_same, get_or-set_other, set-set, set_comm, get_or-take, get_or-drop, take_at, take-take, drop_at}
use lib.Seq.{drop-drop, length-take-le, ext_get_or}
use Rattle.frame.specs.Number.{part, Bytes}

-- ---- one element

-- a run of stores leaves what it does not reach ..
pub sets_off : (b xs : List ℕ) (at j : ℕ) → (j < at) ⊎ (at + length xs ≤ j) → get_or (sets b at xs) j 0 ≡ get_or b j 0
sets_off b [] at j h = refl
sets_off b (x ∷ xs) at j (inl h) = sets_off (set b at x) xs (suc at) j (inl (omega arith)) ∙ get_or-set_other b at j x 0 (λ e. omega arith)
sets_off b (x ∷ xs) at j (inr h) = sets_off (set b at x) xs (suc at) j (inr (omega arith)) ∙ get_or-set_other b at j x 0 (λ e. omega arith)

-- .. and fills the rest
pub sets_on : (b xs : List ℕ) (at k : ℕ) → k < length xs → at + length xs ≤ length b → get_or (sets b at xs) (at + k) 0 ≡ get_or xs k 0
sets_on b [] at k h l = absurd (omega arith)
sets_on b (x ∷ xs) at zero h l =
    rw add-zero (sets_off (set b at x) xs (suc at) at (inl (omega arith)) ∙ get_or-set_same b at x 0 (omega arith))
sets_on b (x ∷ xs) at (suc k) h l =
    let m : suc at + length xs ≤ length (set b at x) = rw length-set (omega arith) in
    rw (add-suc, ← suc-add) (sets_on (set b at x) xs (suc at) k (omega arith) m)

-- ---- a part

pub length_part : (p k : ℕ) (b : List ℕ) → p + k ≤ length b → length (part p k b) ≡ k
length_part p k b h = length-take-le k (drop p b) (rw length-drop (omega arith))

-- `&b[at..end]`, and the first k of it, which are all
pub part_whole : (b : List ℕ) (at end k : ℕ) → end ≡ at + k → take k (take (end - at) (drop at b)) ≡ part at k b
part_whole b at end k e = let d : end - at ≡ k = omega arith in rw d (take-take k k (drop at b) (omega arith))

-- parts are equal by their elements
pub part_ext : (p k : ℕ) (a b : List ℕ) → length a ≡ length b → ((j : ℕ) → j < k → get_or a (p + j) 0 ≡ get_or b (p + j) 0) → part p k a ≡ part p k b
part_ext p k a b e f =
    ext_get_or 0 (part p k a) (part p k b) (rw (length-take k (drop p a), length-drop, length-take, length-drop, e))
    (λ i h. let g : i < k = omega (arith, length-take k (drop p a)) in
    get_or-take k (drop p a) i 0 g ∙ get_or-drop p a i 0 ∙ f i g ∙ sym (get_or-drop p b i 0) ∙ sym (get_or-take k (drop p b) i 0 g))

pub part_off : (b xs : List ℕ) (at p k : ℕ) → (p + k ≤ at) ⊎ (at + length xs ≤ p) → part p k (sets b at xs) ≡ part p k b
part_off b xs at p k (inl h) = part_ext p k (sets b at xs) b (length-sets b at xs) (λ j g. sets_off b xs at (p + j) (inl (omega arith)))
part_off b xs at p k (inr h) = part_ext p k (sets b at xs) b (length-sets b at xs) (λ j g. sets_off b xs at (p + j) (inr (omega arith)))

pub part_on : (b xs : List ℕ) (at : ℕ) → at + length xs ≤ length b → part at (length xs) (sets b at xs) ≡ xs
part_on b xs at h =
    rw (sets-eq xs b at h, append_assoc, drop_at (take at b) (xs ++ drop (at + length xs) b) at (length-take-le at b (omega arith)))
    (take_at xs (drop (at + length xs) b) (length xs) refl)

-- ---- runs over runs

-- a list's own part changes nothing
pub sets_own : (b : List ℕ) (at k : ℕ) → at + k ≤ length b → sets b at (part at k b) ≡ b
sets_own b at k h =
    let l = length_part at k b h in
    sets-eq (part at k b) b at (rw l h)
    ∙ rw (l, append_assoc, ← drop-drop k at b, take-append-drop k (drop at b))
    (take-append-drop at b)

-- a store before a run goes first or last
set_sets : (b xs : List ℕ) (at j y : ℕ) → j < at → set (sets b at xs) j y ≡ sets (set b j y) at xs
set_sets b [] at j y h = refl
set_sets b (x ∷ xs) at j y h =
    set_sets (set b at x) xs (suc at) j y (omega arith)
    ∙ ap (λ (l : List ℕ). sets l (suc at) xs) (set_comm b at j x y (λ e. omega arith))

-- of two runs from the same place on the later one stands, where it is no shorter
pub sets_over : (b xs ys : List ℕ) (at : ℕ) → length xs ≤ length ys → sets (sets b at xs) at ys ≡ sets b at ys
sets_over b [] ys at e = refl
sets_over b (x ∷ xs) [] at e = absurd (omega arith)
sets_over b (x ∷ xs) (y ∷ ys) at e =
    ap (λ (l : List ℕ). sets l (suc at) ys) (set_sets (set b at x) xs (suc at) at y (omega arith) ∙ ap (λ (l : List ℕ). sets l (suc at) xs) (set-set b at x y))
    ∙ sets_over (set b at y) xs ys (suc at) (omega arith)

-- ---- bytes stay bytes

pub bytes_cons : (x : ℕ) (xs : List ℕ) → x < 256 → Bytes xs → Bytes (x ∷ xs)
bytes_cons x xs h f zero = h
bytes_cons x xs h f (suc i) = f i

pub bytes_three : (x y z : ℕ) → x < 256 → y < 256 → z < 256 → Bytes (x ∷ y ∷ z ∷ [])
bytes_three x y z f g h = bytes_cons x (y ∷ z ∷ []) f (bytes_cons y (z ∷ []) g (bytes_cons z [] h (λ i. lit< tt)))

pub bytes_set : (b : List ℕ) (i x : ℕ) → Bytes b → x < 256 → Bytes (set b i x)
bytes_set [] i x f h = f
bytes_set (y ∷ ys) zero x f h = bytes_cons x ys h (λ j. f (suc j))
bytes_set (y ∷ ys) (suc i) x f h = bytes_cons y (set ys i x) (f 0) (bytes_set ys i x (λ j. f (suc j)) h)

pub bytes_sets : (b xs : List ℕ) (at : ℕ) → Bytes b → Bytes xs → Bytes (sets b at xs)
bytes_sets b [] at f g = f
bytes_sets b (x ∷ xs) at f g = bytes_sets (set b at x) xs (suc at) (bytes_set b at x f (g 0)) (λ j. g (suc j))
