-- How many values of a list stand there twice or more. Idea: `shared` is easy to believe and `twice` to induct on; both have each value once (`pigeons`).
-- Assumes nothing.
use mathlib.Core.Path.{◌≡◌, refl, ap, sym, ◌∙◌}
use mathlib.Core.List.{List, [], ◌∷◌, map}
use mathlib.Core.Bool.{Bool, true, false}
use Prim.Native.Nat.{ℕ, zero, suc, ◌+◌, ◌*◌, ◌≤◌, ◌<◌}
use native.Mathlib.Nat.{zero-add, mul-suc, mul-zero}
use native.Mathlib.Omega.{arith}
use lib.ListN.{length}
use lib.Dec.{eqb, leb}
use borrow.Author.Tests.{eq-eqb, ne_eqb, eqb-true, eqb-false, le-leb, lt-leb, leb-true, leb-false}
use Rattle.inventory.specs.Endings.{one, count, keep_if, keep, different, shared, ending}
use Rattle.inventory.specs.Numbers.{only}

-- each value of a list that stands there more than n times, once
abbrev pub beyond : ℕ → List ℕ → List ℕ
beyond n [] = []
beyond n (x ∷ xs) = keep_if (eqb n (count x xs)) x (beyond n xs)

-- each value of a list that stands there twice or more, once: at its last but one place
abbrev pub twice : List ℕ → List ℕ
twice ys = beyond 1 ys

one_le : (b : Bool) → one b ≤ 1
one_le true = omega arith
one_le false = omega arith

one_true : (b : Bool) → 0 < one b → b ≡ true
one_true true h = refl
one_true false h = absurd (omega arith)

eqb_comm : (a b : ℕ) → eqb a b ≡ eqb b a
eqb_comm a b = go (eqb b a) refl
  where
    go : (q : Bool) → eqb b a ≡ q → eqb a b ≡ q
    go true e = eq-eqb a b (sym (eqb-true b a e))
    go false e = ne_eqb a b (λ p. eqb-false b a e (sym p))

-- what keepIf does to a count
count_keep_if : (v : ℕ) (b : Bool) (x : ℕ) (xs : List ℕ) → count v (keep_if b x xs) ≡ only b (one (eqb v x)) + count v xs
count_keep_if v true x xs = refl
count_keep_if v false x xs = omega arith

past : (n c : ℕ) → (n ≡ c → ⊥) → one (leb (suc n) c) ≡ one (leb (suc n) (1 + c))
past n c h = go (leb (suc n) c) refl
  where
    go : (b : Bool) → leb (suc n) c ≡ b → one b ≡ one (leb (suc n) (1 + c))
    go true e = rw (le-leb (suc n) (1 + c) (omega (arith, leb-true (suc n) c e)))
    go false e = rw (lt-leb (suc n) (1 + c) (omega (arith, leb-false (suc n) c e)))

-- v stands in `beyond n ys` once if it stands in ys more than n times, and otherwise never
count_beyond : (n v : ℕ) (ys : List ℕ) → count v (beyond n ys) ≡ one (leb (suc n) (count v ys))
count_beyond n v [] = rw (lt-leb (suc n) 0 (omega arith))
count_beyond n v (x ∷ xs) =
    count_keep_if v (eqb n (count x xs)) x (beyond n xs) ∙ go (count_beyond n v xs) (eqb v x) refl (eqb n (count x xs)) refl
  where
    go : count v (beyond n xs) ≡ one (leb (suc n) (count v xs)) → (b : Bool) → eqb v x ≡ b → (q : Bool) → eqb n (count x xs) ≡ q
        → only q (one b) + count v (beyond n xs) ≡ one (leb (suc n) (one b + count v xs))
    go ih false e true q = rw (zero-add, zero-add) ih
    go ih false e false q = rw (zero-add, zero-add) ih
    go ih true e true q =
        let p : v ≡ x = eqb-true v x e in
        let c : n ≡ count v xs = rw p (eqb-true n (count x xs) q) in
        rw (ih, ← c, lt-leb (suc n) n (omega arith), le-leb (suc n) (1 + n) (omega arith))
    go ih true e false q =
        let p : v ≡ x = eqb-true v x e in
        let c : n ≡ count v xs → ⊥ = rw p (eqb-false n (count x xs) q) in
        rw zero-add (ih ∙ past n (count v xs) c)

different_beyond : (ys : List ℕ) → different ys ≡ beyond 0 ys
different_beyond [] = refl
different_beyond (x ∷ xs) = rw (different_beyond xs)

count_twice : (v : ℕ) (ys : List ℕ) → count v (twice ys) ≡ one (leb 2 (count v ys))
count_twice v ys = count_beyond 1 v ys

count_different : (v : ℕ) (ys : List ℕ) → count v (different ys) ≡ one (leb 1 (count v ys))
count_different v ys = rw (different_beyond ys) (count_beyond 0 v ys)

count_keep : (v : ℕ) (p : ℕ → Bool) (ys : List ℕ) → count v (keep p ys) ≡ only (p v) (count v ys)
count_keep v p [] = go (p v)
  where
    go : (b : Bool) → 0 ≡ only b 0
    go true = refl
    go false = refl
count_keep v p (x ∷ xs) = count_keep_if v (p x) x (keep p xs) ∙ rw (count_keep v p xs) (go (eqb v x) refl)
  where
    both : (b : Bool) (n m : ℕ) → only b n + only b m ≡ only b (n + m)
    both true n m = refl
    both false n m = refl

    free : (a b : Bool) (m : ℕ) → only a 0 + only b m ≡ only b (0 + m)
    free true b m = rw (zero-add, zero-add)
    free false b m = rw (zero-add, zero-add)

    go : (q : Bool) → eqb v x ≡ q → only (p x) (one q) + only (p v) (count v xs) ≡ only (p v) (one q + count v xs)
    go true e = let w : v ≡ x = eqb-true v x e in rw (← w) (both (p v) 1 (count v xs))
    go false e = free (p x) (p v) (count v xs)

-- ---- a list with no value twice is no longer than a list that has its values

-- f d added up over the elements d of a list
abbrev over : (ℕ → ℕ) → List ℕ → ℕ
over f [] = 0
over f (d ∷ ds) = f d + over f ds

over_add : (f g : ℕ → ℕ) (ds : List ℕ) → over (λ d. f d + g d) ds ≡ over f ds + over g ds
over_add f g [] = refl
over_add f g (d ∷ ds) = omega (arith, over_add f g ds)

over_none : (ds : List ℕ) → over (λ d. 0) ds ≡ 0
over_none [] = refl
over_none (d ∷ ds) = omega (arith, over_none ds)

over_one : (y : ℕ) (ds : List ℕ) → over (λ d. one (eqb d y)) ds ≡ count y ds
over_one y [] = refl
over_one y (d ∷ ds) = rw (eqb_comm d y, over_one y ds)

-- no value twice
abbrev pub Distinct : List ℕ → Type 0
Distinct ds = (v : ℕ) → count v ds ≤ 1

over_count_le : (ds ys : List ℕ) → Distinct ds → over (λ d. count d ys) ds ≤ length ys
over_count_le ds [] h = omega (arith, over_none ds)
over_count_le ds (y ∷ ys) h =
    omega (arith, over_add (λ d. one (eqb d y)) (λ d. count d ys) ds, over_one y ds, h y, over_count_le ds ys h)

over_ge : (c : ℕ) (f : ℕ → ℕ) (ds : List ℕ) → ((d : ℕ) → 0 < count d ds → c ≤ f d) → c * length ds ≤ over f ds
over_ge c f [] h = rw mul-zero (omega arith)
over_ge c f (d ∷ ds) h =
    let a : c ≤ f d = h d (rw eqb_same (omega arith)) in
    let b = over_ge c f ds (λ e m. h e (omega arith)) in
    rw mul-suc (omega arith)
  where
    eqb_same : eqb d d ≡ true
    eqb_same = eq-eqb d d refl

-- each value of ds stands c times or more in ys
pigeons : (c : ℕ) (ds ys : List ℕ) → Distinct ds → ((d : ℕ) → 0 < count d ds → c ≤ count d ys) → c * length ds ≤ length ys
pigeons c ds ys h k = omega (arith, over_ge c (λ d. count d ys) ds k, over_count_le ds ys h)

twice_distinct : (ys : List ℕ) → Distinct (twice ys)
twice_distinct ys v = rw (count_twice v ys) (one_le (leb 2 (count v ys)))

-- at most half as many values stand there twice as there are elements
pub twice_half : (ys : List ℕ) → 2 * length (twice ys) ≤ length ys
twice_half ys = pigeons 2 (twice ys) ys (twice_distinct ys)
    (λ d m. leb-true 2 (count d ys) (one_true (leb 2 (count d ys)) (rw (count_twice d ys) at m)))

-- where there is one, some value stands there twice or more, and so the other way
pub twice_found : (ys : List ℕ) → 1 ≤ length (twice ys) → (v : ℕ) × (2 ≤ count v ys)
twice_found ys = go (twice ys) refl
  where
    go : (zs : List ℕ) → twice ys ≡ zs → 1 ≤ length zs → (v : ℕ) × (2 ≤ count v ys)
    go [] e h = absurd (omega arith)
    go (v ∷ zs) e h =
        let c : 0 < one (leb 2 (count v ys)) = rw (← count_twice v ys, e, eq-eqb v v refl) (omega arith) in
        (v, leb-true 2 (count v ys) (one_true (leb 2 (count v ys)) c))

count_le : (v : ℕ) (ys : List ℕ) → count v ys ≤ length ys
count_le v [] = omega arith
count_le v (y ∷ ys) = omega (arith, one_le (eqb v y), count_le v ys)

pub found_twice : (ys : List ℕ) (v : ℕ) → 2 ≤ count v ys → 1 ≤ length (twice ys)
found_twice ys v h = omega (arith, count_le v (twice ys), count_twice v ys, ap one (le-leb 2 (count v ys) h))

pub same_values : (a b : List ℕ) → Distinct a → ((v : ℕ) → count v a ≡ count v b) → length a ≤ length b
same_values a b h e = omega (arith, pigeons 1 a b h (λ d m. omega (arith, e d)))

-- the count of shared endings, as the specification has it, is `twice`'s
pub shared_twice : (m : ℕ) (us : List ℕ) → length (shared m us) ≡ length (twice (map (ending m) us))
shared_twice m us =
    let s = same_values (shared m us) (twice (map (ending m) us)) (λ v. rw (e v) (twice_distinct (map (ending m) us) v)) e in
    let t = same_values (twice (map (ending m) us)) (shared m us) (twice_distinct (map (ending m) us)) (λ v. sym (e v)) in
    omega arith
  where
    low : (n : ℕ) → only (leb 2 n) (one (leb 1 n)) ≡ one (leb 2 n)
    low zero = refl
    low (suc zero) = refl
    low (suc (suc n)) = rw (le-leb 2 (suc (suc n)) (omega arith), le-leb 1 (suc (suc n)) (omega arith))

    e : (v : ℕ) → count v (shared m us) ≡ count v (twice (map (ending m) us))
    e v = count_keep v (λ d. leb 2 (count d (map (ending m) us))) (different (map (ending m) us))
        ∙ rw (count_different v (map (ending m) us), count_twice v (map (ending m) us)) (low (count v (map (ending m) us)))
