-- From the walk as events sent to a rack of bytes to the walk on UIDs: explore is listing and rounds. Idea: three facts of a round (the rack left,
-- who is hit, what is listed) and every rack on the way is the first one or the cleared one. Assumes nothing.
use mathlib.Core.Path.{◌≡◌, refl, ap, sym, ◌∙◌}
use mathlib.Core.Bool.{Bool, true, false}
use mathlib.Core.List.{List, [], ◌++◌, append-nil}
use Prim.Native.Nat.{ℕ, zero, suc, ◌+◌, ◌*◌, ◌^◌, ◌≤◌, ◌<◌}
use native.Mathlib.Nat.{add-zero, add_comm}
use native.Mathlib.Omega.{arith}
use lib.Dec.{leb, ltb}
use lib.ListN.{length, get_or}
use Rattle.frame.specs.Choose.{gather}
use Rattle.request.specs.declared.label.Family.{Family}
use Rattle.inventory.specs.Endings.{sum_to}
use Rattle.inventory.specs.Walk.{Trip, PerEvent, slot_outcome, hits, round, join, start, visit, upto, depth, explore, trip, uids, cleared}
use Rattle.inventory.specs.Promise.{flat}
use Rattle.inventory.specs.Numbers.{in_slot, only, ifs, lone, singles, collides, list_of, rounds_of}
use Rattle.inventory.proofs.EndingsSums.{sum_ext, sum_zero}
use Rattle.inventory.proofs.EndingsTrie.{members, mask, split, mask_lt}
use Rattle.inventory.proofs.EndingsWalks.{rounds, listing}
use Rattle.frame.proofs.Gather.{gather_ext}
use Rattle.inventory.proofs.Lists.{gather_at}
use Rattle.inventory.proofs.PromiseFlat.{flat_append, flat_none, flat_gather}
use Rattle.inventory.proofs.WalkEvents.{Fine, Lent, lent_same}
use Rattle.inventory.proofs.WalkRounds.{left_rack}
use Rattle.inventory.proofs.WalkUids.{heard_count, heard_alone}
use Rattle.inventory.proofs.WalkClears.{cleared_fine, cleared_count, cleared_uids, cleared_twice}

pub ifs_none : (n : ℕ) (b : ℕ → Bool) → gather n (λ s. ifs (b s) []) ≡ []
unfolding gather
ifs_none zero b = refl
ifs_none (suc n) b = rw (ifs_none n b) (go (b n))
  where
    go : (q : Bool) → ◌≡◌ {A = List ℕ} (ifs q []) []
    go true = refl
    go false = refl

pub only_none : (n : ℕ) (b : ℕ → Bool) → sum_to n (λ s. only (b s) 0) ≡ 0
only_none n b = sum_zero n (λ s. only (b s) 0) (λ s. go (b s))
  where
    go : (q : Bool) → only q 0 ≡ 0
    go true = refl
    go false = refl

-- ---- the three facts of a round

module _ {draws out : PerEvent} (r : List ℕ) (lent : Lent draws out r) (fine : Fine r) (family : Family) (m e : ℕ) (short : m ≤ 60) (low : e < 2 ^ m) where
  pub left : (round draws out r family m e).rack ≡ cleared r
  unfolding round
  left = left_rack r fine family m e short low lent

  hit : (s : ℕ) → s < 16 → get_or (round draws out r family m e).hits s 0 ≡ length (members (4 + m) (mask m e s) (uids family r))
  unfolding round
  hit s h = gather_at 16 (λ i. hits (slot_outcome draws out r family m e i)) s h ∙ heard_count r fine family m e short low s (omega arith) lent

  pub list : (round draws out r family m e).found ≡ flat (gather 16 (λ s. lone (members (4 + m) (mask m e s) (uids family r))))
  unfolding round
  list = gather_ext 16 _ _ (λ s h. heard_alone r fine family m e short low s (omega arith) lent) ∙ flat_gather 16 _

-- ---- as the code does it: a branch by slots

slot_members : (m e s : ℕ) → e < 2 ^ m → (us : List ℕ) → in_slot m (members m e us) s ≡ members (4 + m) (mask m e s) us
unfolding in_slot
slot_members m e s h us = sym (split 4 m e s h us)

module _ (us : List ℕ) where
  pub branch_list : (d m e : ℕ) → e < 2 ^ m → list_of (suc d) m (members m e us) ≡ listing 4 d m e us
  unfolding list_of singles listing
  branch_list zero m e h =
      ap (λ (l : List ℕ). gather 16 (λ s. lone (in_slot m (members m e us) s)) ++ l) (ifs_none 16 (collides m (members m e us))) ∙ append-nil _
      ∙ gather_ext 16 _ _ (λ s b. ap lone (slot_members m e s h us))
  branch_list (suc d) m e h =
      let A : ℕ → List ℕ = λ s. ifs (collides m (members m e us) s) (list_of (suc d) (m + 4) (in_slot m (members m e us) s)) in
      let B : ℕ → List ℕ = λ s. ifs (leb 2 (length (members (4 + m) (mask m e s) us))) (listing 4 d (4 + m) (mask m e s) us) in
      let at_slot : (s : ℕ) → s < 16 → A s ≡ B s
      = λ s b.
      ap (λ (l : List ℕ). ifs (leb 2 (length l)) (list_of (suc d) (m + 4) l)) (slot_members m e s h us)
      ∙ ap (λ (n : ℕ). ifs (leb 2 (length (members (4 + m) (mask m e s) us))) (list_of (suc d) n (members (4 + m) (mask m e s) us))) (add_comm m 4)
      ∙ ap (λ (l : List ℕ). ifs (leb 2 (length (members (4 + m) (mask m e s) us))) l) (branch_list d (4 + m) (mask m e s) (mask_lt 4 m e s h b)) in
      ap (λ (l : List ℕ). l ++ gather 16 A) (gather_ext 16 _ _ (λ s b. ap lone (slot_members m e s h us)))
      ∙ ap (λ (l : List ℕ). gather 16 (λ s. lone (members (4 + m) (mask m e s) us)) ++ l) (gather_ext 16 A B at_slot)

  pub branch_rounds : (d m e : ℕ) → e < 2 ^ m → rounds_of (suc d) m (members m e us) ≡ rounds 4 d m e us
  unfolding rounds_of rounds
  branch_rounds zero m e h = ap (λ (n : ℕ). 1 + n) (only_none 16 (collides m (members m e us)))
  branch_rounds (suc d) m e h =
      let A : ℕ → ℕ = λ s. only (collides m (members m e us) s) (rounds_of (suc d) (m + 4) (in_slot m (members m e us) s)) in
      let B : ℕ → ℕ = λ s. only (leb 2 (length (members (4 + m) (mask m e s) us))) (rounds 4 d (4 + m) (mask m e s) us) in
      let at_slot : (s : ℕ) → s < 16 → A s ≡ B s
      = λ s b.
      ap (λ (l : List ℕ). only (leb 2 (length l)) (rounds_of (suc d) (m + 4) l)) (slot_members m e s h us)
      ∙ ap (λ (n : ℕ). only (leb 2 (length (members (4 + m) (mask m e s) us))) (rounds_of (suc d) n (members (4 + m) (mask m e s) us))) (add_comm m 4)
      ∙ ap (λ (n : ℕ). only (leb 2 (length (members (4 + m) (mask m e s) us))) n) (branch_rounds d (4 + m) (mask m e s) (mask_lt 4 m e s h b)) in
      ap (λ (n : ℕ). 1 + n) (sum_ext 16 A B at_slot)

-- ---- the walk

module _ (draws out : PerEvent) (family : Family) (us C : List ℕ) where
  -- a rack with these UIDs, that is C once it is cleared
  pub record Good (r : List ℕ) : Type 0 where
    pub lent : Lent draws out r
    pub fine : Fine r
    pub same : uids family r ≡ us
    pub clears : cleared r ≡ C

  -- what a trip is to be
  pub record TripIs (t : Trip) (xs : List ℕ) (n : ℕ) : Type 0 where
    pub rack : t.rack ≡ C
    pub found : t.found ≡ flat xs
    pub rounds : t.rounds ≡ n

  -- the slots below s, where each collided one is told
  slots : (m e : ℕ) (heard : List ℕ) (sub : List ℕ → ℕ → Trip) (L : ℕ → List ℕ) (N : ℕ → ℕ) (s : ℕ)
      → ((i : ℕ) → i < s → (r : List ℕ) → r ≡ C → TripIs (sub r (mask m e i)) (L i) (N i))
      → (r : List ℕ) → r ≡ C
      → TripIs (upto sub heard m e s r) (gather s (λ i. ifs (ltb 1 (get_or heard i 0)) (L i))) (sum_to s (λ i. only (ltb 1 (get_or heard i 0)) (N i)))
  unfolding upto visit join gather
  slots m e heard sub L N zero h r g = record { rack = g; found = sym flat_none; rounds = refl }
  slots m e heard sub L N (suc s) h r g = go (slots m e heard sub L N s (λ i b. h i (omega arith)) r g) (ltb 1 (get_or heard s 0))
    where
      go : TripIs (upto sub heard m e s r) (gather s (λ i. ifs (ltb 1 (get_or heard i 0)) (L i))) (sum_to s (λ i. only (ltb 1 (get_or heard i 0)) (N i)))
          → (b : Bool)
          → TripIs (visit sub heard m e b s (upto sub heard m e s r)) (gather s (λ i. ifs (ltb 1 (get_or heard i 0)) (L i)) ++ ifs b (L s))
          (sum_to s (λ i. only (ltb 1 (get_or heard i 0)) (N i)) + only b (N s))
      go t true =
          let k = h s (omega arith) (upto sub heard m e s r).rack t.rack in
          record { rack = k.rack; found = rw (t.found, k.found) (sym (flat_append _ (L s))); rounds = rw (t.rounds, k.rounds) }
      go t false = record { rack = t.rack; found = t.found ∙ ap flat (sym (append-nil _)); rounds = t.rounds ∙ sym (add-zero _) }

  module _ (C-good : Good C) where
    pub told : (d m : ℕ) (r : List ℕ) (e : ℕ) → Good r → e < 2 ^ m → 4 * suc d + m ≡ 64
        → TripIs (explore draws out (suc d) r family m e) (listing 4 d m e us) (rounds 4 d m e us)
    unfolding explore join start rounds listing
    told zero m r e g i w =
        let b : m ≤ 60 = omega arith in
        let h = round draws out r family m e in
        let k = slots m e h.hits (λ r₁ n. explore draws out 0 r₁ family (m + 4) n) (λ n. []) (λ n. 0) 16
        (λ n q r₁ g₁. record { rack = g₁; found = sym flat_none; rounds = refl }) h.rack (left r g.lent g.fine family m e b i ∙ g.clears) in
        record {
          rack = k.rack;
          found = ap (λ (x : List ℕ). h.found ++ x) (k.found ∙ ap flat (ifs_none 16 (λ n. ltb 1 (get_or h.hits n 0))) ∙ flat_none) ∙ append-nil h.found
              ∙ rw g.same at (list r g.lent g.fine family m e b i);
          rounds = ap (λ (x : ℕ). 1 + x) (k.rounds ∙ only_none 16 (λ n. ltb 1 (get_or h.hits n 0)));
        }
    told (suc d) m r e g i w =
        let b : m ≤ 60 = omega arith in
        let h = round draws out r family m e in
        let L : ℕ → List ℕ = λ n. listing 4 d (4 + m) (mask m e n) us in
        let N : ℕ → ℕ = λ n. rounds 4 d (4 + m) (mask m e n) us in
        let k = slots m e h.hits (λ r₁ n. explore draws out (suc d) r₁ family (m + 4) n) L N 16
        (λ n q r₁ g₁. rw (add_comm m 4) (told d (4 + m) r₁ (mask m e n) (rw g₁ C-good) (mask_lt 4 m e n i q) (omega arith)))
        h.rack (left r g.lent g.fine family m e b i ∙ g.clears) in
        let counts : (n : ℕ) → n < 16 → get_or h.hits n 0 ≡ length (members (4 + m) (mask m e n) us)
        = λ n q. rw g.same at (hit r g.lent g.fine family m e b i n q) in
        record {
          rack = k.rack;
          found = ap (λ (x : List ℕ). h.found ++ x) k.found
              ∙ ap (λ (x : List ℕ). x ++ flat (gather 16 (λ n. ifs (ltb 1 (get_or h.hits n 0)) (L n))))
              (rw g.same at (list r g.lent g.fine family m e b i))
              ∙ sym (flat_append (gather 16 (λ s. lone (members (4 + m) (mask m e s) us))) _)
              ∙ ap (λ (x : List ℕ). flat (gather 16 (λ s. lone (members (4 + m) (mask m e s) us)) ++ x))
              (gather_ext 16 _ _ (λ n q. ap (λ (z : ℕ). ifs (leb 2 z) (L n)) (counts n q)));
          rounds = ap (λ (x : ℕ). 1 + x) (k.rounds ∙ sum_ext 16 _ _ (λ n q. ap (λ (z : ℕ). only (leb 2 z) (N n)) (counts n q)));
        }

module _ {draws out : PerEvent} (family : Family) (r : List ℕ) (l : Lent draws out r) (f : Fine r) where
  start_good : Good draws out family (uids family r) (cleared r) r
  start_good = record { lent = l; fine = f; same = refl; clears = refl }

  cleared_good : Good draws out family (uids family r) (cleared r) (cleared r)
  cleared_good =
      record { lent = lent_same l (cleared_count r f); fine = cleared_fine r f; same = cleared_uids r f family; clears = cleared_twice r f }

  -- from no mask on
  pub trip_is : TripIs draws out family (uids family r) (cleared r) (trip draws out r family)
      (listing 4 15 0 0 (uids family r)) (rounds 4 15 0 0 (uids family r))
  unfolding depth
  trip_is = told draws out family (uids family r) (cleared r) cleared_good 15 0 r 0 start_good (omega arith) refl
