-- What the public call cites: the refusal in its order, the UIDs that a walk starts from, room and rounds for it, and its reply.
-- Idea: accepted, `done` bounds list and rounds; then the reply is `replies`. Assumes nothing.
use mathlib.Core.Path.{◌≡◌, refl, ap, sym, ◌∙◌}
use mathlib.Core.Bool.{true, false}
use mathlib.Core.List.{List}
use Prim.Native.Nat.{ℕ, ◌+◌, ◌*◌, ◌/◌, ◌^◌, ◌≤◌, ◌<◌}
use native.Mathlib.Nat.{zero-add}
use native.Mathlib.Omega.{arith}
use borrow.Author.Tests.{lt-ltb, le-ltb}
use lib.ListN.{length}
use lib.Seq.{sets}
use Rattle.frame.specs.Number.{Bytes}
use Rattle.std.specs.Prelude.{Err}
use Rattle.frame.specs.declared.verdict.Offence.{Offence}
use Rattle.frame.specs.Judge.{fine}
use Rattle.frame.specs.declared.refusal.Refusal.{Refusal}
use Rattle.frame.specs.Refusal.{refusal_number}
use Rattle.event.proofs.EventOutcomes.{refusal_some}
use Rattle.request.specs.declared.label.Family.{Family}
use Rattle.request.specs.declared.label.Family.TheVariants.{Any}
use Rattle.rack.specs.File.{count_of, verdict_of}
use Rattle.rack.specs.Facts.{RackFine}
use Rattle.inventory.specs.Walk.{depth, trip, zeros, blank, uids, twins, refusal_of, cleared}
use Rattle.inventory.specs.Numbers.{repeated, list_of, rounds_of}
use Rattle.inventory.specs.Promise.{flat, Reply}
use Rattle.inventory.proofs.WalkEvents.{Fine}
use Rattle.inventory.proofs.WalkUids.{uids_few}
use Rattle.rack.proofs.FileVerdict.{rack_fine}
use Rattle.inventory.proofs.NumbersRepeated.{twins_repeated, twins_none}
use Rattle.inventory.proofs.Promise.{Accepted, accepted, Done, done, own, walk_carried, walk_refused, replies}

-- ---- before the first round

module _ (r : List ℕ) (room : ℕ) where
  pub begins_bad : (o : Offence) → verdict_of r ≡ Err o → 1 ≡ refusal_of r room
  unfolding refusal_of
  begins_bad o e = rw e refl

  module _ (well : verdict_of r ≡ fine) where
    pub begins_short : room < 8 * count_of r → 5 ≡ refusal_of r room
    unfolding refusal_of
    begins_short b = rw (well, lt-ltb room (8 * count_of r) b) refl

    module _ (small : Bytes r) (b : 8 * count_of r ≤ room) where
      same : repeated (uids Any r) ≡ twins r
      same = sym (twins_repeated r (record { rack = rack_fine r well; bytes = small }))

      pub begins_twins : repeated (uids Any r) ≡ true → 6 ≡ refusal_of r room
      unfolding refusal_of
      begins_twins y = rw (well, le-ltb room (8 * count_of r) b, sym same ∙ y) refl

      pub begins_ready : repeated (uids Any r) ≡ false → refusal_of r room ≡ 0
      unfolding refusal_of
      begins_ready y = rw (well, le-ltb room (8 * count_of r) b, sym same ∙ y) refl

pub ruleset begins = (begins_bad, begins_short, begins_twins, begins_ready)

-- ---- the walk

module _ (r : List ℕ) (small : Bytes r) (family : Family) (list : List ℕ) where
  pub call_refused : (e : Refusal) → refusal_number e ≡ refusal_of r (length list)
      → Reply family r r list list (record { number = refusal_number e; labels = 0; rounds = 0 })
  call_refused e q =
      let x = walk_refused r family list (λ z. refusal_some e (q ∙ z)) in
      replies r small family list (rw (x, ← q) refl) (rw x refl) (rw x refl)

  module _ (none : refusal_of r (length list) ≡ 0) where
    ok : Accepted r (length list)
    ok = accepted r (length list) none

    walked : Done family r (trip (zeros r) blank r family)
    walked = let fine : Fine r = record { rack = ok.fine; bytes = small } in done r fine (own r) family (twins_none r fine ok.single)

    pub call_fine : RackFine r
    call_fine = ok.fine

    module _ {us : List ℕ} (all : us ≡ uids family r) where
      -- what the walk from no mask on asks
      pub call_asks : (0 + length (flat (list_of (depth 0) 0 us)) ≤ length list) × ((rounds_of (depth 0) 0 us < 2 ^ 64) × (0 ≤ 60))
      call_asks =
          let f = ok.fine.head.few in
          let m = uids_few family r in
          rw all (omega (arith, walked.size, ap length walked.branches, ok.roomy), (omega (arith, walked.bound, walked.trips), omega arith))

      pub call_walked : {r₁ list₁ : List ℕ} {c k : ℕ} → r₁ ≡ cleared r
          → (list₁ ≡ sets list 0 (flat (list_of (depth 0) 0 us)))
          × ((c ≡ 0 + length (flat (list_of (depth 0) 0 us))) × (k ≡ rounds_of (depth 0) 0 us))
          → Reply family r r₁ list list₁ (record { number = 0; labels = c / 8; rounds = k })
      call_walked {r₁} {list₁} {c} {k} p told =
          let x = walk_carried r family list none in
          let t = rw all at told in
          let z : c ≡ length (trip (zeros r) blank r family).found = t.1.0 ∙ zero-add _ ∙ ap length (sym walked.branches) in
          let y : k ≡ (trip (zeros r) blank r family).rounds = t.1.1 ∙ sym walked.trips in
          replies r small family list (rw (x, z, y) refl) (rw x (p ∙ sym walked.leaves)) (rw x (t.0 ∙ ap (sets list 0) (sym walked.branches)))
