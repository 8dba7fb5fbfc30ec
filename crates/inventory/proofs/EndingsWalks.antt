-- The walk on UIDs as numbers, over k, the bits that a round adds: it lists each of them once, and its rounds are one and the shared endings. Idea: a mask's
-- members taken apart by slots; a slot with one lists it, a slot with more goes down. Assumes nothing.
use mathlib.Core.Path.{◌≡◌, refl, ap, sym, ◌∙◌}
use mathlib.Core.List.{List, [], ◌∷◌, ◌++◌, map}
use mathlib.Core.Bool.{Bool, true, false}
use Prim.Native.Nat.{ℕ, zero, suc, ◌+◌, ◌*◌, ◌/◌, ◌^◌, ◌≤◌, ◌<◌}
use native.Mathlib.Nat.{add-zero, mul-suc, mul-one, zero-mul, suc-mul, mod-lt, mod-one, mod-eq_of_lt, lt_of_lt_of_le}
use native.Mathlib.Omega.{arith}
use lib.ListN.{length, length-map}
use lib.Dec.{eqb, leb}
use lib.Pow.{pow_pos, pow_mono}
use borrow.Author.Tests.{eq-eqb, eqb-true, le-leb}
use Rattle.frame.specs.Choose.{gather}
use Rattle.inventory.specs.Endings.{one, count, keep_if, sum_to, ending, shared}
use Rattle.inventory.specs.Numbers.{only, ifs, lone}
use Rattle.inventory.proofs.Lists.{Each}
use Rattle.inventory.proofs.EndingsSums.{group, apart, sum_ext, sum_add, sum_front}
use Rattle.inventory.proofs.EndingsTwice.{Distinct, twice_half, shared_twice, same_values}
use Rattle.inventory.proofs.EndingsTrie.{slot_of, members, mask, split, mask_lt, sh, levels, nodes, nodes_levels}

-- ---- lists of slots

pub count_append : (v : ℕ) (a b : List ℕ) → count v (a ++ b) ≡ count v a + count v b
count_append v [] b = omega arith
count_append v (x ∷ a) b = omega (arith, count_append v a b)

count_gather : (v n : ℕ) (f : ℕ → List ℕ) → count v (gather n f) ≡ sum_to n (λ s. count v (f s))
unfolding gather
count_gather v zero f = refl
count_gather v (suc n) f = rw (count_append v (gather n f) (f n), count_gather v n f)

count_apart : (k m v : ℕ) (xs : List ℕ) → count v xs ≡ sum_to (2 ^ k) (λ s. count v (group (slot_of k m) s xs))
count_apart k m v xs =
    apart (slot_of k m) (2 ^ k) (λ u. mod-lt (u / 2 ^ m) (pow_pos k)) (count v) (λ x ys. one (eqb v x)) refl (λ x ys. refl) (λ x ys. refl) xs

-- ---- the walk with 2 ^ k slots: at the mask e of m bits, with d rounds below it

unfoldable pub rounds : ℕ → ℕ → ℕ → ℕ → List ℕ → ℕ
rounds k zero m e us = 1
rounds k (suc d) m e us =
    1 + sum_to (2 ^ k) (λ s. only (leb 2 (length (members (k + m) (mask m e s) us))) (rounds k d (k + m) (mask m e s) us))

unfoldable pub listing : ℕ → ℕ → ℕ → ℕ → List ℕ → List ℕ
listing k zero m e us = gather (2 ^ k) (λ s. lone (members (k + m) (mask m e s) us))
listing k (suc d) m e us =
    gather (2 ^ k) (λ s. lone (members (k + m) (mask m e s) us))
    ++ gather (2 ^ k) (λ s. ifs (leb 2 (length (members (k + m) (mask m e s) us))) (listing k d (k + m) (mask m e s) us))

-- a round for the mask, and one for each collided mask below it
rounds_nodes : (k d m e : ℕ) (us : List ℕ) → rounds k d m e us ≡ 1 + nodes k d m e us
unfolding rounds nodes
rounds_nodes k zero m e us = refl
rounds_nodes k (suc d) m e us = ap (λ (n : ℕ). 1 + n)
    (sum_ext (2 ^ k) _ _ (λ s b. ap (λ (n : ℕ). only (leb 2 (length (members (k + m) (mask m e s) us))) n)
    (rounds_nodes k d (k + m) (mask m e s) us ∙ one-plus (nodes k d (k + m) (mask m e s) us))))
  where
    one-plus : (n : ℕ) → 1 + n ≡ suc n
    one-plus n = omega arith

-- ---- every UID has w bits
abbrev pub Below : ℕ → List ℕ → Type 0
Below w = Each (λ u. u < 2 ^ w)

whole_ending : (w M c : ℕ) (us : List ℕ) → Below w us → w ≤ M → length (members M c us) ≤ count c us
whole_ending w M c [] h b = omega arith
whole_ending w M c (x ∷ us) h b = go (whole_ending w M c us h.1 b) (eqb (ending M x) c) refl
  where
    go : length (members M c us) ≤ count c us → (q : Bool) → eqb (ending M x) c ≡ q → length (keep_if q x (members M c us)) ≤ one (eqb c x) + count c us
    go ih true e =
        let l : x < 2 ^ M = lt_of_lt_of_le h.0 (pow_mono b) in
        rw (eq-eqb c x (sym (eqb-true (ending M x) c e) ∙ mod-eq_of_lt l)) (omega (arith, ih))
    go ih false e = omega (arith, ih)

-- what a slot lists: the one that it has, or what its own walk lists
slot_count : (v : ℕ) (G L : List ℕ) → count v L ≡ count v G → count v (lone G) + count v (ifs (leb 2 (length G)) L) ≡ count v G
slot_count v [] L h = refl
slot_count v (x ∷ []) L h = omega arith
slot_count v (x ∷ y ∷ G) L h = rw (le-leb 2 (length (x ∷ y ∷ G)) (omega arith)) (omega (arith, h))

alone_small : (G : List ℕ) → length G ≤ 1 → lone G ≡ G
alone_small [] h = refl
alone_small (x ∷ []) h = refl
alone_small (x ∷ y ∷ G) h = absurd (omega arith)

-- it lists each member of the mask as often as it is there, and nothing else
pub listing_count : (w k d m e : ℕ) (us : List ℕ) → Below w us → Distinct us → w ≤ k * suc d + m → e < 2 ^ m
    → (v : ℕ) → count v (listing k d m e us) ≡ count v (members m e us)
unfolding listing
listing_count w k zero m e us u n b h v =
    count_gather v (2 ^ k) _
    ∙ sum_ext (2 ^ k) _ (λ s. count v (group (slot_of k m) s (members m e us)))
    (λ s q. let l = whole_ending w (k + m) (mask m e s) us u (rw mul-one at b) in
    rw (← split k m e s h us) (ap (count v) (alone_small (members (k + m) (mask m e s) us) (omega (arith, l, n (mask m e s))))))
    ∙ sym (count_apart k m v (members m e us))
listing_count w k (suc d) m e us u n b h v =
    let c : w ≤ k * suc d + (k + m) = omega (arith, rw mul-suc at b) in
    let G : ℕ → List ℕ = λ s. members (k + m) (mask m e s) us in
    let L : ℕ → List ℕ = λ s. ifs (leb 2 (length (G s))) (listing k d (k + m) (mask m e s) us) in
    let p : sum_to (2 ^ k) (λ s. count v (lone (G s)) + count v (L s)) ≡ sum_to (2 ^ k) (λ s. count v (group (slot_of k m) s (members m e us)))
    = sum_ext (2 ^ k) _ _
    (λ s q. rw (← split k m e s h us) (slot_count v (G s) (listing k d (k + m) (mask m e s) us)
    (listing_count w k d (k + m) (mask m e s) us u n c (mask_lt k m e s h q) v))) in
    count_append v (gather (2 ^ k) (λ s. lone (G s))) (gather (2 ^ k) L)
    ∙ omega (
      arith,
      count_gather v (2 ^ k) (λ s. lone (G s)),
      count_gather v (2 ^ k) L,
      sum_add (2 ^ k) (λ s. count v (lone (G s))) (λ s. count v (L s)),
      p,
      count_apart k m v (members m e us),
    )

-- ---- the promises

-- every UID ends in no bits
pub all_end : (us : List ℕ) → members 0 0 us ≡ us
all_end [] = refl
all_end (u ∷ us) = rw (mod-one u, all_end us)

levels_sum : (k d m : ℕ) (xs : List ℕ) → levels k d m xs ≡ sum_to d (λ i. sh (k * suc i + m) xs)
unfolding levels
levels_sum k zero m xs = refl
levels_sum k (suc d) m xs =
    let a : sum_to d (λ i. sh (k * suc i + (k + m)) xs) ≡ sum_to d (λ i. sh (k * suc (suc i) + m) xs)
    = sum_ext d _ _ (λ i b. ap (λ (n : ℕ). sh n xs) (omega (arith, mul-suc k (suc i)))) in
    let f = sum_front d (λ i. sh (k * suc i + m) xs) in
    let o : sh (k * 1 + m) xs ≡ sh (k + m) xs = rw mul-one in
    omega (arith, levels_sum k d (k + m) xs)

sh_shared : (M : ℕ) (us : List ℕ) → sh M us ≡ length (shared M us)
sh_shared M us = sym (shared_twice M us)

-- The walk of 2 ^ k slots, d + 1 rounds deep: its rounds are one and the number of different endings of k, 2 k, .. up to d k bits that two or more share.
pub rounds_shared : (k d : ℕ) (us : List ℕ) → rounds k d 0 0 us ≡ 1 + sum_to d (λ i. length (shared (k * suc i) us))
rounds_shared k d us =
    let s : sum_to d (λ i. sh (k * suc i + 0) us) ≡ sum_to d (λ i. length (shared (k * suc i) us))
    = sum_ext d _ _ (λ i b. rw add-zero (sh_shared (k * suc i) us)) in
    let n : nodes k d 0 0 us ≡ levels k d 0 us = rw all_end at (nodes_levels k d 0 0 us (omega arith)) in
    omega (arith, rounds_nodes k d 0 0 us, levels_sum k d 0 us)

-- no more than half of the UIDs' number at each length
shared_half : (M : ℕ) (us : List ℕ) → length (shared M us) ≤ length us / 2
shared_half M us =
    let a = twice_half (map (ending M) us) in
    let b : length (map (ending M) us) ≡ length us = length-map us (ending M) in
    omega (arith, shared_twice M us)

sum_le : (n c : ℕ) (f : ℕ → ℕ) → ((i : ℕ) → f i ≤ c) → sum_to n f ≤ n * c
sum_le zero c f h = rw zero-mul (omega arith)
sum_le (suc n) c f h = rw suc-mul (omega (arith, sum_le n c f h, h n))

pub rounds_bound : (k d : ℕ) (us : List ℕ) → rounds k d 0 0 us ≤ 1 + d * (length us / 2)
rounds_bound k d us = omega (arith, rounds_shared k d us, sum_le d (length us / 2) (λ i. length (shared (k * suc i) us)) (λ i. shared_half (k * suc i) us))

-- The sixteen-slot walk of UIDs of 64 bits, no two the same.
module _ (us : List ℕ) (u : Below 64 us) (n : Distinct us) where
  pub lists_each : (v : ℕ) → count v (listing 4 15 0 0 us) ≡ count v us
  lists_each v = listing_count 64 4 15 0 0 us u n (omega arith) (omega arith) v ∙ ap (count v) (all_end us)

  -- so the list is as long as the UIDs are many
  pub as_long : length (listing 4 15 0 0 us) ≡ length us
  as_long =
      let a = same_values (listing 4 15 0 0 us) us (λ v. omega (arith, lists_each v, n v)) lists_each in
      let b = same_values us (listing 4 15 0 0 us) n (λ v. sym (lists_each v)) in
      omega arith

pub rounds_16 : (us : List ℕ) → rounds 4 15 0 0 us ≡ 1 + sum_to 15 (λ i. length (shared (4 * suc i) us))
rounds_16 us = rounds_shared 4 15 us

pub rounds_16_bound : (us : List ℕ) → rounds 4 15 0 0 us ≤ 1 + 15 * (length us / 2)
rounds_16_bound us = rounds_bound 4 15 us
