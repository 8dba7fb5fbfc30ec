-- The counting, over k, the bits that a round adds. Idea: the collided masks below a mask (`nodes`), taken apart by slots, are the endings that two or more of
-- its members share (`levels`). Assumes nothing.
use mathlib.Core.Path.{◌≡◌, refl, ap, sym, ◌∙◌}
use mathlib.Core.List.{List, [], ◌∷◌, ◌++◌, map}
use mathlib.Core.Bool.{Bool, true, false}
use Prim.Native.Nat.{ℕ, zero, suc, ◌+◌, ◌*◌, ◌/◌, ◌%◌, ◌^◌, ◌<◌}
use native.Mathlib.Nat.{zero-add, add_assoc, mod-lt}
use native.Mathlib.Omega.{arith}
use lib.ListN.{length}
use lib.Dec.{eqb, leb}
use lib.Pow.{pow_pos, pow-add, mod-pow-add, field, mod-mod-pow, high, low}
use lib.Arith.{digits_lt}
use borrow.Author.Tests.{eq-eqb, ne_eqb, eqb-true, eqb-false, le-leb, leb-false}
use Rattle.inventory.specs.Endings.{one, count, keep_if, keep, sum_to, ending}
use Rattle.inventory.specs.Numbers.{only}
use Rattle.inventory.proofs.EndingsSums.{group, apart, sum_ext, sum_add, sum_zero}
use Rattle.inventory.proofs.EndingsTwice.{twice}

-- the k bits of u above its last m
abbrev pub slot_of : ℕ → ℕ → ℕ → ℕ
slot_of k m u = u / 2 ^ m % 2 ^ k

-- the UIDs that end in the m bits e
abbrev pub members : ℕ → ℕ → List ℕ → List ℕ
members m e us = keep (λ u. eqb (ending m u) e) us

-- the mask e of m bits with the slot s above it
abbrev pub mask : ℕ → ℕ → ℕ → ℕ
mask m e s = s * 2 ^ m + e

-- ---- a mask's members, by slots

pub keep_keep : (p q r : ℕ → Bool) → ((u : ℕ) → q u ≡ true → p u ≡ r u) → ((u : ℕ) → q u ≡ false → p u ≡ false)
    → (us : List ℕ) → keep p us ≡ keep r (keep q us)
keep_keep p q r h g [] = refl
keep_keep p q r h g (x ∷ us) = go (keep_keep p q r h g us) (q x) refl
  where
    go : keep p us ≡ keep r (keep q us) → (b : Bool) → q x ≡ b → keep_if (p x) x (keep p us) ≡ keep r (keep_if b x (keep q us))
    go ih true e = rw (h x e, ih)
    go ih false e = rw (g x e, ih)

pub keep_append : (p : ℕ → Bool) (a b : List ℕ) → keep p (a ++ b) ≡ keep p a ++ keep p b
keep_append p [] b = refl
keep_append p (x ∷ a) b = go (p x) (keep_append p a b)
  where
    go : (q : Bool) → keep p (a ++ b) ≡ keep p a ++ keep p b → keep_if q x (keep p (a ++ b)) ≡ keep_if q x (keep p a) ++ keep p b
    go true ih = rw ih
    go false ih = ih

pub split : (k m e s : ℕ) → e < 2 ^ m → (us : List ℕ) → members (k + m) (mask m e s) us ≡ group (slot_of k m) s (members m e us)
split k m e s h us = keep_keep _ _ _ yes' no' us
  where
    yes' : (u : ℕ) → eqb (ending m u) e ≡ true → eqb (ending (k + m) u) (mask m e s) ≡ eqb (slot_of k m u) s
    yes' u t = go (eqb (slot_of k m u) s) refl
      where
        w : ending (k + m) u ≡ slot_of k m u * 2 ^ m + e
        w = mod-pow-add u k m ∙ ap (λ (z : ℕ). slot_of k m u * 2 ^ m + z) (eqb-true (ending m u) e t)

        go : (b : Bool) → eqb (slot_of k m u) s ≡ b → eqb (ending (k + m) u) (mask m e s) ≡ b
        go true q = eq-eqb _ _ (w ∙ ap (λ (z : ℕ). z * 2 ^ m + e) (eqb-true _ _ q))
        go false q = ne_eqb _ _ (λ z. eqb-false _ _ q (sym (high (slot_of k m u) m h) ∙ ap (λ (y : ℕ). y / 2 ^ m) (sym w ∙ z) ∙ high s m h))

    no' : (u : ℕ) → eqb (ending m u) e ≡ false → eqb (ending (k + m) u) (mask m e s) ≡ false
    no' u t = ne_eqb _ _ (λ z. eqb-false _ _ t (sym (mod-mod-pow u k m) ∙ ap (λ (y : ℕ). y % 2 ^ m) z ∙ low s m h))

pub mask_lt : (k m e s : ℕ) → e < 2 ^ m → s < 2 ^ k → mask m e s < 2 ^ (k + m)
mask_lt k m e s h b = rw (pow-add 2 k m) (digits_lt b h)

-- ---- how many different endings of M bits two or more have, as a sum over the slots

abbrev pub sh : ℕ → List ℕ → ℕ
sh M xs = length (twice (map (ending M) xs))

length_keep_if : (b : Bool) (x : ℕ) (xs : List ℕ) → length (keep_if b x xs) ≡ one b + length xs
length_keep_if true x xs = omega arith
length_keep_if false x xs = omega arith

module _ (k m j : ℕ) where
  -- an ending long enough to say the slot
  abbrev κ : ℕ → ℕ
  κ = ending (j + (k + m))

  abbrev σ : ℕ → ℕ
  σ = slot_of k m

  says_slot : (x y : ℕ) → κ x ≡ κ y → σ x ≡ σ y
  says_slot x y e =
      let f : ending (k + m) x ≡ ending (k + m) y = sym (mod-mod-pow x j (k + m)) ∙ ap (λ (z : ℕ). z % 2 ^ (k + m)) e ∙ mod-mod-pow y j (k + m) in
      sym (field x k m) ∙ ap (λ (z : ℕ). z / 2 ^ m) f ∙ field y k m

  own_count : (x : ℕ) (xs : List ℕ) → count (κ x) (map κ (group σ (σ x) xs)) ≡ count (κ x) (map κ xs)
  own_count x [] = refl
  own_count x (y ∷ xs) = go (own_count x xs) (eqb (σ y) (σ x)) refl
    where
      go : count (κ x) (map κ (group σ (σ x) xs)) ≡ count (κ x) (map κ xs) → (b : Bool) → eqb (σ y) (σ x) ≡ b
          → count (κ x) (map κ (keep_if b y (group σ (σ x) xs))) ≡ one (eqb (κ x) (κ y)) + count (κ x) (map κ xs)
      go ih true e = rw ih
      go ih false e =
          let n : eqb (κ x) (κ y) ≡ false = ne_eqb _ _ (λ z. eqb-false _ _ e (sym (says_slot x y z))) in
          rw n (omega (arith, ih))

  sh_apart : (xs : List ℕ) → sh (j + (k + m)) xs ≡ sum_to (2 ^ k) (λ s. sh (j + (k + m)) (group (slot_of k m) s xs))
  sh_apart xs =
      apart σ (2 ^ k) (λ u. mod-lt (u / 2 ^ m) (pow_pos k)) (sh (j + (k + m)))
      (λ x ys. one (eqb 1 (count (κ x) (map κ ys))))
      refl
      (λ x ys. length_keep_if (eqb 1 (count (κ x) (map κ ys))) (κ x) (twice (map κ ys)))
      (λ x ys. rw (own_count x ys))
      xs

-- the same, added up over the d lengths k + m, k + (k + m), ..
unfoldable pub levels : ℕ → ℕ → ℕ → List ℕ → ℕ
levels k zero m xs = 0
levels k (suc d) m xs = sh (k + m) xs + levels k d (k + m) xs

levels_apart : (k m d j : ℕ) (xs : List ℕ) → levels k d (j + (k + m)) xs ≡ sum_to (2 ^ k) (λ s. levels k d (j + (k + m)) (group (slot_of k m) s xs))
unfolding levels
levels_apart k m zero j xs = sym (sum_zero (2 ^ k) (λ s. 0) (λ s. refl))
levels_apart k m (suc d) j xs =
    rw (← add_assoc)
    (omega (
      arith,
      sh_apart k m (k + j) xs,
      levels_apart k m d (k + j) xs,
      sum_add (2 ^ k) (λ s. sh ((k + j) + (k + m)) (group (slot_of k m) s xs))
          (λ s. levels k d ((k + j) + (k + m)) (group (slot_of k m) s xs)),
    ))

-- ---- fewer than two share nothing

pub small : (M : ℕ) (xs : List ℕ) → length xs < 2 → sh M xs ≡ 0
small M [] h = refl
small M (x ∷ []) h = refl
small M (x ∷ y ∷ xs) h = absurd (omega arith)

levels_small : (k d m : ℕ) (xs : List ℕ) → length xs < 2 → levels k d m xs ≡ 0
unfolding levels
levels_small k zero m xs h = refl
levels_small k (suc d) m xs h = omega (arith, small (k + m) xs h, levels_small k d (k + m) xs h)

-- ---- those that all end in e share it

-- every element is c
all_count : (M c : ℕ) (us : List ℕ) → count c (map (ending M) (members M c us)) ≡ length (members M c us)
all_count M c [] = refl
all_count M c (x ∷ us) = go (all_count M c us) (eqb (ending M x) c) refl
  where
    go : count c (map (ending M) (members M c us)) ≡ length (members M c us) → (b : Bool) → eqb (ending M x) c ≡ b
        → count c (map (ending M) (keep_if b x (members M c us))) ≡ length (keep_if b x (members M c us))
    go ih true e = rw (eq-eqb c (ending M x) (sym (eqb-true _ _ e))) (omega (arith, ih))
    go ih false e = ih

all_sh : (M c : ℕ) (us : List ℕ) → sh M (members M c us) ≡ one (leb 2 (length (members M c us)))
all_sh M c [] = refl
all_sh M c (x ∷ us) = go (all_sh M c us) (eqb (ending M x) c) refl
  where
    go : sh M (members M c us) ≡ one (leb 2 (length (members M c us))) → (b : Bool) → eqb (ending M x) c ≡ b
        → sh M (keep_if b x (members M c us)) ≡ one (leb 2 (length (keep_if b x (members M c us))))
    go ih true e =
        length_keep_if (eqb 1 (count (ending M x) (map (ending M) (members M c us)))) (ending M x) (twice (map (ending M) (members M c us)))
        ∙ rw (eqb-true (ending M x) c e, all_count M c us, ih) (tally (length (members M c us)))
      where
        tally : (n : ℕ) → one (eqb 1 n) + one (leb 2 n) ≡ one (leb 2 (suc n))
        tally zero = refl
        tally (suc zero) = refl
        tally (suc (suc n)) =
            rw (ne_eqb 1 (suc (suc n)) (omega arith), le-leb 2 (suc (suc n)) (omega arith), le-leb 2 (suc (suc (suc n))) (omega arith))
    go ih false e = ih

-- ---- the collided masks below the mask e of m bits, d rounds deep

unfoldable pub nodes : ℕ → ℕ → ℕ → ℕ → List ℕ → ℕ
nodes k zero m e us = 0
nodes k (suc d) m e us =
    sum_to (2 ^ k) (λ s. only (leb 2 (length (members (k + m) (mask m e s) us))) (suc (nodes k d (k + m) (mask m e s) us)))

at_slot : (k d M c : ℕ) (us : List ℕ) → nodes k d M c us ≡ levels k d M (members M c us)
    → only (leb 2 (length (members M c us))) (suc (nodes k d M c us)) ≡ sh M (members M c us) + levels k d M (members M c us)
at_slot k d M c us ih = go (leb 2 (length (members M c us))) refl
  where
    go : (b : Bool) → leb 2 (length (members M c us)) ≡ b → only b (suc (nodes k d M c us)) ≡ sh M (members M c us) + levels k d M (members M c us)
    go true e = rw (all_sh M c us, e) (omega (arith, ih))
    go false e =
        let l = leb-false 2 (length (members M c us)) e in
        omega (arith, small M (members M c us) l, levels_small k d M (members M c us) l)

pub nodes_levels : (k d m e : ℕ) (us : List ℕ) → e < 2 ^ m → nodes k d m e us ≡ levels k d m (members m e us)
unfolding nodes levels
nodes_levels k zero m e us h = refl
nodes_levels k (suc d) m e us h =
    let G : ℕ → List ℕ = λ s. group (slot_of k m) s (members m e us) in
    let a : nodes k (suc d) m e us ≡ sum_to (2 ^ k) (λ s. sh (k + m) (G s) + levels k d (k + m) (G s))
    = sum_ext (2 ^ k) _ (λ s. sh (k + m) (G s) + levels k d (k + m) (G s))
    (λ s b. rw (← split k m e s h us) (at_slot k d (k + m) (mask m e s) us (nodes_levels k d (k + m) (mask m e s) us (mask_lt k m e s h b)))) in
    let b = sum_add (2 ^ k) (λ s. sh (k + m) (G s)) (λ s. levels k d (k + m) (G s)) in
    let c : sh (k + m) (members m e us) ≡ sum_to (2 ^ k) (λ s. sh (k + m) (G s)) = rw zero-add at (sh_apart k m 0 (members m e us)) in
    let f : levels k d (k + m) (members m e us) ≡ sum_to (2 ^ k) (λ s. levels k d (k + m) (G s)) = rw zero-add at (levels_apart k m d 0 (members m e us)) in
    omega (arith, a, b, c, f)
