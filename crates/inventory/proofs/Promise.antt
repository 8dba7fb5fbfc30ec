-- Demand 3 for a rack of bytes: what the walk lists, how many rounds it takes, and the rack it leaves; that draws and answer buffers do not matter;
-- and that the statement leaves one reply. Idea: `trip_is`, then the counting theorem at four bits a round. Assumes nothing.
use Rattle.std.specs.Prelude.{if◌then◌else◌, is_ok, Ok, Err}
use mathlib.Core.Path.{◌≡◌, refl, ap, sym, ◌∙◌}
use mathlib.Core.Bool.{Bool, true, false, not}
use mathlib.Core.List.{List}
use Prim.Native.Nat.{ℕ, suc, ◌+◌, ◌*◌, ◌/◌, ◌≤◌}
use native.Mathlib.Omega.{arith}
use borrow.Author.Tests.{eqb-true, ltb-false, le-ltb, ne_eqb}
use lib.Dec.{eqb, ltb}
use lib.ListN.{length, length-replicate}
use lib.Seq.{sets}
use Rattle.frame.specs.Number.{Bytes}
use Rattle.request.specs.declared.label.Family.{Family}
use Rattle.request.specs.declared.label.Family.TheVariants.{Any}
use Rattle.frame.specs.Judge.{Verdict, fine}
use Rattle.rack.specs.File.{count_of, verdict_of}
use Rattle.rack.specs.Facts.{RackFine}
use Rattle.rack.proofs.FileVerdict.{rack_fine}
use Rattle.event.specs.Event.{least}
use Rattle.inventory.specs.declared.walk.Walked.{Walked}
use Rattle.inventory.specs.Endings.{count, sum_to, shared}
use Rattle.inventory.specs.Walk.{PerEvent, Trip, Result, depth, trip, zeros, blank, uids, twins, refusal_of, refused, carried, walk_of, cleared}
use Rattle.inventory.specs.Numbers.{list_of, rounds_of}
use Rattle.inventory.specs.Promise.{flat, Promise, Reply}
use Rattle.inventory.proofs.EndingsTwice.{Distinct}
use Rattle.inventory.proofs.EndingsWalks.{all_end, listing, lists_each, as_long, rounds_16, rounds_16_bound}
use Rattle.inventory.proofs.PromiseFlat.{flat_length}
use Rattle.inventory.proofs.WalkEvents.{Fine, Lent}
use Rattle.inventory.proofs.WalkUids.{uids_below, some_distinct}
use Rattle.inventory.proofs.WalkBridge.{branch_list, branch_rounds, trip_is}
use Rattle.inventory.proofs.NumbersRepeated.{twins_none, none_twins}

-- ---- the walk of a well-formed rack without twins

pub record Done (family : Family) (r : List ℕ) (t : Trip) : Type 0 where
  pub listed : List ℕ
  pub bytes : t.found ≡ flat listed
  pub lists : (v : ℕ) → count v listed ≡ count v (uids family r)
  pub once : Distinct listed
  pub size : length t.found ≡ 8 * length (uids family r)
  pub counts : t.rounds ≡ 1 + sum_to 15 (λ i. length (shared (4 * suc i) (uids family r)))
  pub bound : t.rounds ≤ 1 + 15 * (length (uids family r) / 2)
  pub leaves : t.rack ≡ cleared r
  -- as the code walks the UIDs
  pub branches : t.found ≡ flat (list_of (depth 0) 0 (uids family r))
  pub trips : t.rounds ≡ rounds_of (depth 0) 0 (uids family r)

pub done : {draws out : PerEvent} (r : List ℕ) → Fine r → Lent draws out r → (family : Family) → Distinct (uids Any r) → Done family r (trip draws out r family)
unfolding depth
done r fine lent family alone =
    let us = uids family r in
    let d = some_distinct family r alone in
    let b = uids_below r fine family in
    let t = trip_is family r lent fine in
    record {
      listed = listing 4 15 0 0 us;
      bytes = t.found;
      lists = λ v. lists_each us b d v;
      once = λ v. rw (lists_each us b d v) (d v);
      size = ap length t.found ∙ flat_length (listing 4 15 0 0 us) ∙ ap (λ (n : ℕ). 8 * n) (as_long us b d);
      counts = t.rounds ∙ rounds_16 us;
      bound = rw t.rounds (rounds_16_bound us);
      leaves = t.rack;
      branches = t.found ∙ ap flat (sym (ap (list_of 16 0) (sym (all_end us)) ∙ branch_list us 15 0 0 (omega arith)));
      trips = t.rounds ∙ sym (ap (rounds_of 16 0) (sym (all_end us)) ∙ branch_rounds us 15 0 0 (omega arith));
    }

-- ---- draws and answer buffers do not matter

-- what the walk lends its own events
pub own : (r : List ℕ) → Lent (zeros r) blank r
own r = record { size = λ m e s. length-replicate {A = ℕ} (count_of r) 0; room = λ m e s. omega arith }

same_trip : (a b : Trip) → a.rack ≡ b.rack → a.found ≡ b.found → a.rounds ≡ b.rounds → a ≡ b
same_trip a b p q n =
    ap (λ (x : List ℕ). record { rack = x; found = a.found; rounds = a.rounds }) p
    ∙ ap (λ (x : List ℕ). record { rack = b.rack; found = x; rounds = a.rounds }) q
    ∙ ap (λ (x : ℕ). record { rack = b.rack; found = b.found; rounds = x }) n

-- With any draws and buffers, others for each event, the events find the same, in as many rounds, and leave the same rack.
pub any_draws : (r : List ℕ) → Bytes r → verdict_of r ≡ fine → (draws out : PerEvent)
    → ((bits mask s : ℕ) → length (draws bits mask s) ≡ count_of r) → ((bits mask s : ℕ) → least ≤ length (out bits mask s))
    → (family : Family) → trip draws out r family ≡ trip (zeros r) blank r family
any_draws r small well draws out size room family =
    let fine : Fine r = record { rack = rack_fine r well; bytes = small } in
    let lent : Lent draws out r = record { size = size; room = room } in
    let t = trip_is family r lent fine in
    let u = trip_is family r (own r) fine in
    same_trip (trip draws out r family) (trip (zeros r) blank r family)
    (t.rack ∙ sym u.rack) (t.found ∙ sym u.found) (t.rounds ∙ sym u.rounds)

-- ---- where no refusal applies

pub record Accepted (r : List ℕ) (room : ℕ) : Type 0 where
  pub fine : RackFine r
  pub roomy : 8 * count_of r ≤ room
  pub single : twins r ≡ false

pub accepted : (r : List ℕ) (room : ℕ) → refusal_of r room ≡ 0 → Accepted r room
unfolding refusal_of
accepted r room = go (verdict_of r) refl (ltb room (8 * count_of r)) refl (twins r) refl
  where
    go : (v : Verdict) → verdict_of r ≡ v → (q : Bool) → ltb room (8 * count_of r) ≡ q → (t : Bool) → twins r ≡ t
        → ◌≡◌ {A = ℕ} (if not (is_ok v) then 1 else if q then 5 else if t then 6 else 0) 0 → Accepted r room
    go (Ok u) e false f false g z = record { fine = rack_fine r e; roomy = ltb-false room (8 * count_of r) f; single = g }
    go (Ok u) e false f true g z = absurd (omega (arith, z))
    go (Ok u) e true f t g z = absurd (omega (arith, z))
    go (Err o) e q f t g z = absurd (omega (arith, z))

-- the three premises of demand 3 are that none applies
unrefused : (r : List ℕ) (room : ℕ) → Bytes r → verdict_of r ≡ fine → 8 * count_of r ≤ room → Distinct (uids Any r) → refusal_of r room ≡ 0
unfolding refusal_of
unrefused r room small well roomy alone =
    rw (well, le-ltb room (8 * count_of r) roomy, none_twins r (record { rack = rack_fine r well; bytes = small }) alone) refl

walk_number : (r : List ℕ) (family : Family) (list : List ℕ) → (walk_of r family list).report.number ≡ 0 → refusal_of r (length list) ≡ 0
unfolding walk_of
walk_number r family list = go (eqb (refusal_of r (length list)) 0) refl
  where
    go : (q : Bool) → eqb (refusal_of r (length list)) 0 ≡ q
        → (if q then carried (trip (zeros r) blank r family) list else refused (refusal_of r (length list)) r list).report.number ≡ 0
        → refusal_of r (length list) ≡ 0
    go true e z = eqb-true (refusal_of r (length list)) 0 e
    go false e z = z

pub walk_carried : (r : List ℕ) (family : Family) (list : List ℕ) → refusal_of r (length list) ≡ 0
    → walk_of r family list ≡ carried (trip (zeros r) blank r family) list
unfolding walk_of
walk_carried r family list h = rw h refl

pub walk_refused : (r : List ℕ) (family : Family) (list : List ℕ) → (refusal_of r (length list) ≡ 0 → ⊥)
    → walk_of r family list ≡ refused (refusal_of r (length list)) r list
unfolding walk_of
walk_refused r family list h = rw (ne_eqb (refusal_of r (length list)) 0 h) refl

-- Demand 3: what a walk that is not refused promises.
pub promise : (r : List ℕ) → Bytes r → (family : Family) (list : List ℕ) → (walk_of r family list).report.number ≡ 0
    → Promise family r (walk_of r family list).rack list (walk_of r family list).list (walk_of r family list).report
promise r small family list h =
    let n = walk_number r family list h in
    let a = accepted r (length list) n in
    let fine : Fine r = record { rack = a.fine; bytes = small } in
    let p = done r fine (own r) family (twins_none r fine a.single) in
    rw (walk_carried r family list n)
    (record {
      listed = p.listed;
      lists = p.lists;
      once = p.once;
      written = ap (sets list 0) p.bytes;
      labels = omega (arith, p.size);
      counts = p.counts;
      bound = p.bound;
      leaves = p.leaves;
    })

-- Demand 3 in its own words: well-formed, room for the list, and no two labels in state 1 or 3 share a UID.
pub demand_3 : (r : List ℕ) → Bytes r → (family : Family) (list : List ℕ)
    → verdict_of r ≡ fine → 8 * count_of r ≤ length list → ((v : ℕ) → count v (uids Any r) ≤ 1)
    → ((walk_of r family list).report.number ≡ 0)
    × Promise family r (walk_of r family list).rack list (walk_of r family list).list (walk_of r family list).report
demand_3 r small family list well roomy alone =
    let h = ap (λ (x : Result). x.report.number) (walk_carried r family list (unrefused r (length list) small well roomy alone)) in
    (h, promise r small family list h)

-- ---- the reply of the call

pub replies : (r : List ℕ) → Bytes r → (family : Family) (list : List ℕ) {r₁ list₁ : List ℕ} {w : Walked}
    → w ≡ (walk_of r family list).report → r₁ ≡ (walk_of r family list).rack → list₁ ≡ (walk_of r family list).list → Reply family r r₁ list list₁ w
replies r small family list p q l =
    record { report = p; rack = q; written = l; promised = λ z. rw (p, q, l) (promise r small family list (rw p at z)) }

-- Two replies that meet the statement are equal.
pub only_one : (family : Family) (r r₁ r₂ list l₁ l₂ : List ℕ) (v w : Walked) → Reply family r r₁ list l₁ v → Reply family r r₂ list l₂ w
    → (v ≡ w) × ((r₁ ≡ r₂) × (l₁ ≡ l₂))
only_one family r r₁ r₂ list l₁ l₂ v w a b = (a.report ∙ sym b.report, (a.rack ∙ sym b.rack, a.written ∙ sym b.written))

-- Demand 3 by itself leaves open only the order of the list.
pub but_order : (family : Family) (r r₁ r₂ list l₁ l₂ : List ℕ) (v w : Walked) (a : Promise family r r₁ list l₁ v) (b : Promise family r r₂ list l₂ w)
    → (v.labels ≡ w.labels) × ((v.rounds ≡ w.rounds) × ((r₁ ≡ r₂) × ((u : ℕ) → count u a.listed ≡ count u b.listed)))
but_order family r r₁ r₂ list l₁ l₂ v w a b =
    (a.labels ∙ sym b.labels, (a.counts ∙ sym b.counts, (a.leaves ∙ sym b.leaves, λ u. a.lists u ∙ sym (b.lists u))))
