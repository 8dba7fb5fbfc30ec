-- Laws of what is gathered over indices. Idea: each law of a gathered list is a law of one index. Assumes nothing.
use mathlib.Core.Path.{◌≡◌, refl, ap, ◌∙◌}
use mathlib.Core.List.{List, [], ◌∷◌, ◌++◌, map, append-nil}
use Prim.Native.Nat.{ℕ, zero, suc, ◌≤◌, ◌<◌}
use mathlib.Core.Logic.{⊎_elim}
use native.Mathlib.Nat.{add-zero, eq-or-lt_of_le}
use native.Mathlib.Omega.{arith}
use lib.ListN.{length, get_or, drop, length-append, get_or-append}
use lib.Seq.{get_or_at, get_or-drop}
use Rattle.frame.specs.Choose.{gather}
use Rattle.frame.proofs.Lists.{gather_suc}

-- the first of what is left
pub drop_head : (i : ℕ) (us : List ℕ) → get_or (drop i us) 0 0 ≡ get_or us i 0
drop_head i us = get_or-drop i us 0 0 ∙ ap (λ (j : ℕ). get_or us j 0) (add-zero i)

-- one value a place
gather_length : (n : ℕ) (f : ℕ → ℕ) → length (gather n (λ i. f i ∷ [])) ≡ n
unfolding gather
gather_length zero f = refl
gather_length (suc n) f = length-append (gather n (λ i. f i ∷ [])) _ ∙ omega (arith, gather_length n f)

pub gather_at : (n : ℕ) (f : ℕ → ℕ) (s : ℕ) → s < n → get_or (gather n (λ i. f i ∷ [])) s 0 ≡ f s
gather_at zero f s h = absurd (omega arith)
gather_at (suc n) f s h =
    let l = gather_length n f in
    let b : s ≤ n = omega arith in
    rw gather_suc
    (⊎_elim
    (λ (q : s ≡ n). rw q (get_or_at (gather n (λ i. f i ∷ [])) (f n) [] 0 n l))
    (λ (q : s < n). get_or-append (gather n (λ i. f i ∷ [])) (f n ∷ []) 0 s (omega arith) ∙ gather_at n f s q)
    (eq-or-lt_of_le b))

-- at most one a place
pub gather_few : (n : ℕ) (f : ℕ → List ℕ) → ((i : ℕ) → length (f i) ≤ 1) → length (gather n f) ≤ n
unfolding gather
gather_few zero f h = omega arith
gather_few (suc n) f h = omega (arith, length-append (gather n f) (f n), gather_few n f h, h n)

-- nothing added from s on
pub gather_still : (n s : ℕ) (g : ℕ → List ℕ) → s ≤ n → ((q : ℕ) → s ≤ q → q < n → g q ≡ []) → gather n g ≡ gather s g
gather_still zero s g h e = let z : s ≡ 0 = omega arith in rw z refl
gather_still (suc n) s g h e =
    ⊎_elim
    (λ (q : s ≡ suc n). rw q refl)
    (λ (q : s < suc n).
    let b : s ≤ n = omega arith in
    gather_suc n g ∙ ap (λ (l : List ℕ). gather n g ++ l) (e n b (omega arith)) ∙ append-nil (gather n g) ∙ gather_still n s g b (λ p c d. e p c (omega arith)))
    (eq-or-lt_of_le h)

-- ---- what holds of all of a list

abbrev pub Each : {A : Type 0} → (A → Type 0) → List A → Type 0
Each P [] = Unit {0}
Each P (x ∷ xs) = P x × Each P xs

each_append : {A : Type 0} (P : A → Type 0) (a b : List A) → Each P a → Each P b → Each P (a ++ b)
each_append P [] b p q = q
each_append P (x ∷ a) b p q = (p.0, each_append P a b p.1 q)

pub each_gather : {A : Type 0} (P : A → Type 0) (n : ℕ) (g : ℕ → List A) → ((i : ℕ) → i < n → Each P (g i)) → Each P (gather n g)
unfolding gather
each_gather P zero g h = tt
each_gather P (suc n) g h = each_append P (gather n g) (g n) (each_gather P n g (λ i b. h i (omega arith))) (h n (omega arith))

pub each_as : {P Q : ℕ → Type 0} → ((u : ℕ) → P u → Q u) → (a : List ℕ) → Each P a → Each Q a
each_as f [] e = tt
each_as f (x ∷ a) e = (f x e.0, each_as f a e.1)

pub each_at : (P : ℕ → Type 0) (a : List ℕ) → Each P a → (j : ℕ) → j < length a → P (get_or a j 0)
each_at P [] e j h = absurd (omega arith)
each_at P (x ∷ a) e zero h = e.0
each_at P (x ∷ a) e (suc j) h = each_at P a e.1 j (omega arith)

map_append : {A B : Type 0} (f : A → B) (a b : List A) → map f (a ++ b) ≡ map f a ++ map f b
map_append f [] b = refl
map_append f (x ∷ a) b = rw (map_append f a b)

pub map_gather : {A B : Type 0} (f : A → B) (n : ℕ) (g : ℕ → List A) → map f (gather n g) ≡ gather n (λ i. map f (g i))
unfolding gather
map_gather f zero g = refl
map_gather f (suc n) g = map_append f (gather n g) (g n) ∙ rw (map_gather f n g)
