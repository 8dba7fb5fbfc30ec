-- UIDs that stand twice: the laws of the search for them, and that two labels have one UID exactly where a UID stands twice among those gathered.
-- Idea: UIDs of 64 bits are their own endings of 64 bits; `twins` and `repeated` are both false exactly where they are distinct. Assumes nothing.
use mathlib.Core.Path.{◌≡◌, refl, ap, sym, ◌∙◌}
use mathlib.Core.Logic.{⊎_elim}
use mathlib.Core.Bool.{Bool, true, false, ◌||◌, false≢true}
use mathlib.Core.List.{List, [], ◌∷◌, map}
use Prim.Native.Nat.{ℕ, suc, ◌+◌, ◌-◌, ◌≤◌, ◌<◌}
use native.Mathlib.Nat.{mod-eq_of_lt}
use native.Mathlib.Numerals.{add-one}
use native.Mathlib.Omega.{arith}
use borrow.Author.Tests.{eq-eqb, ne_eqb, eqb-true, le-leb, lt-leb, leb-true, leb-false}
use lib.Dec.{eqb, leb}
use lib.ListN.{length, get_or, take, drop, length-drop, drop_of_length-le}
use lib.Seq.{drop-cons, take_all}
use Rattle.frame.proofs.Bools.{or_off, below_or_not}
use Rattle.request.specs.declared.label.Family.TheVariants.{Any}
use Rattle.inventory.specs.Endings.{one, count, ending}
use Rattle.inventory.specs.Walk.{uids, twins}
use Rattle.inventory.specs.Numbers.{repeated}
use Rattle.inventory.proofs.EndingsTwice.{Distinct, twice, twice_found, found_twice, shared_twice}
use Rattle.inventory.proofs.EndingsWalks.{Below}
use Rattle.inventory.proofs.WalkEvents.{Fine}
use Rattle.inventory.proofs.WalkUids.{uids_below}

-- ---- a UID sought among others: it is not one of the first i

pub record Seeking (u : ℕ) (us : List ℕ) (i : ℕ) : Type 0 where
  pub upto : i ≤ length us
  pub ahead : count u (drop i us) ≡ count u us

pub seeking_none : (u : ℕ) (us : List ℕ) → Seeking u us 0
seeking_none u us = record { upto = omega arith; ahead = refl }

module _ {u : ℕ} {us : List ℕ} {i : ℕ} (k : Seeking u us i) where
  here : i < length us → one (eqb u (get_or us i 0)) + count u (drop (suc i) us) ≡ count u us
  here h = sym (ap (count u) (drop-cons us i 0 h)) ∙ k.ahead

  pub seeking_found : i < length us → get_or us i 0 ≡ u → true ≡ leb 1 (count u us)
  seeking_found h e = sym (le-leb 1 (count u us) (omega (arith, here h, ap one (eq-eqb u (get_or us i 0) (sym e)))))

  pub seeking_more : i < length us → (get_or us i 0 ≡ u → ⊥) → Seeking u us (i + 1)
  seeking_more h e = rw (add-one i) (record { upto = h; ahead = omega (arith, here h, ap one (ne_eqb u (get_or us i 0) (λ o. e (sym o)))) })

  pub seeking_done : length us ≤ i → false ≡ leb 1 (count u us)
  seeking_done h = sym (ap (leb 1) (sym k.ahead ∙ ap (count u) (drop_of_length-le us {i = i} h)))

-- ---- each sought among those behind it: none of the first i is there

pub record Comparing (us : List ℕ) (i : ℕ) : Type 0 where
  pub upto : i ≤ length us
  pub ahead : repeated (drop i us) ≡ repeated us

pub comparing_none : (us : List ℕ) → Comparing us 0
comparing_none us = record { upto = omega arith; ahead = refl }

module _ {us : List ℕ} {i : ℕ} (k : Comparing us i) where
  -- the part that is lent
  behind : i < length us → take (length us - (i + 1)) (drop (i + 1) us) ≡ drop (suc i) us
  behind h = take_all (length us - (i + 1)) (drop (i + 1) us) (rw length-drop (omega arith)) ∙ ap (λ (j : ℕ). drop j us) (add-one i)

  module _ (h : i < length us) {t : Bool} (is : t ≡ leb 1 (count (get_or us i 0) (take (length us - (i + 1)) (drop (i + 1) us)))) where
    here_too : (t || repeated (drop (suc i) us)) ≡ repeated us
    unfolding repeated
    here_too =
        ap (λ (q : Bool). q || repeated (drop (suc i) us)) (is ∙ ap (λ (l : List ℕ). leb 1 (count (get_or us i 0) l)) (behind h))
        ∙ sym (ap repeated (drop-cons us i 0 h)) ∙ k.ahead

    pub comparing_found : t ≡ true → true ≡ repeated us
    comparing_found e = rw e at here_too

    pub comparing_more : t ≡ false → Comparing us (i + 1)
    comparing_more e = rw (add-one i) (record { upto = h; ahead = rw e at here_too })

  pub comparing_done : length us ≤ i → false ≡ repeated us
  unfolding repeated
  comparing_done h = sym (sym k.ahead ∙ ap repeated (drop_of_length-le us {i = i} h))

-- ---- none is found exactly where they are distinct

pub repeated_none : (us : List ℕ) → repeated us ≡ false → Distinct us
unfolding repeated
repeated_none [] h v = omega arith
repeated_none (x ∷ us) h v =
    let o = or_off (leb 1 (count x us)) (repeated us) h in
    go (leb-false 1 (count x us) o.0) (repeated_none us o.1 v) (eqb v x) refl
  where
    go : count x us < 1 → count v us ≤ 1 → (q : Bool) → eqb v x ≡ q → one q + count v us ≤ 1
    go none ih true e = let p : v ≡ x = eqb-true v x e in rw p (omega (arith, none))
    go none ih false e = omega (arith, ih)

none_repeated : (us : List ℕ) → Distinct us → repeated us ≡ false
unfolding repeated
none_repeated [] d = refl
none_repeated (x ∷ us) d =
    let c : count x us < 1 = omega (arith, d x, ap one (eq-eqb x x refl)) in
    rw (lt-leb 1 (count x us) c) (none_repeated us (λ v. omega (arith, d v)))

-- ---- two labels in state 1 or 3 have one UID

whole : (us : List ℕ) → Below 64 us → map (ending 64) us ≡ us
whole [] b = refl
whole (u ∷ us) b = rw (mod-eq_of_lt b.0, whole us b.1)

module _ (r : List ℕ) (fine : Fine r) where
  as_twice : twins r ≡ leb 1 (length (twice (uids Any r)))
  unfolding twins
  as_twice = ap (leb 1) (shared_twice 64 (uids Any r) ∙ ap (λ (us : List ℕ). length (twice us)) (whole (uids Any r) (uids_below r fine Any)))

  -- true exactly where a UID stands twice among theirs
  pub twins_two : twins r ≡ true → (v : ℕ) × (2 ≤ count v (uids Any r))
  twins_two h = twice_found (uids Any r) (leb-true 1 (length (twice (uids Any r))) (sym as_twice ∙ h))

  pub two_twins : (v : ℕ) → 2 ≤ count v (uids Any r) → twins r ≡ true
  two_twins v h = as_twice ∙ le-leb 1 (length (twice (uids Any r))) (found_twice (uids Any r) v h)

  -- and false exactly where none does
  pub twins_none : twins r ≡ false → Distinct (uids Any r)
  twins_none h v = ⊎_elim
      (λ (b : count v (uids Any r) < 2). omega arith)
      (λ (b : 2 ≤ count v (uids Any r)). absurd (false≢true (sym h ∙ two_twins v b)))
      (below_or_not (count v (uids Any r)) 2)

  pub none_twins : Distinct (uids Any r) → twins r ≡ false
  none_twins d = go (twins r) refl
    where
      go : (t : Bool) → twins r ≡ t → t ≡ false
      go true e = let p = twins_two e in absurd (omega (arith, p.1, d p.0))
      go false e = refl

  -- so it is what the search among the UIDs gathered finds
  pub twins_repeated : twins r ≡ repeated (uids Any r)
  twins_repeated = go (repeated (uids Any r)) refl
    where
      go : (q : Bool) → repeated (uids Any r) ≡ q → twins r ≡ q
      go true e = still (twins r) refl
        where
          still : (t : Bool) → twins r ≡ t → t ≡ true
          still true f = refl
          still false f = absurd (false≢true (sym (none_repeated (uids Any r) (twins_none f)) ∙ e))
      go false e = none_twins (repeated_none (uids Any r) e)
