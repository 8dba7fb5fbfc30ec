-- Demand 3: what a walk that is not refused promises, counted from the UIDs and from no run; and what the call replies. Assumes nothing.
use Rattle.std.specs.Prelude.{◌≡◌, List, [], ◌∷◌, ◌++◌, ℕ, suc, ◌+◌, ◌*◌, ◌/◌, ◌≤◌, length}
use Rattle.std.proofs.lemmas.List.Edits.{sets}
use Rattle.frame.specs.Number.{bytes_of}
use Rattle.request.specs.declared.label.Family.{Family}
use Rattle.inventory.specs.declared.walk.Walked.{Walked}
use Rattle.inventory.specs.Endings.{count, sum_to, shared}
use Rattle.inventory.specs.Walk.{uids, walk_of, cleared}

-- eight bytes a UID, least significant byte first
unfoldable pub flat : List ℕ → List ℕ
flat [] = []
flat (u ∷ us) = bytes_of 8 u ++ flat us

-- family, rack before and after, list before and after, report
pub record Promise (family : Family) (r r₁ list list₁ : List ℕ) (w : Walked) : Type 0 where
  -- the UIDs listed: those of the labels that answer, and no other; each once
  pub listed : List ℕ
  pub lists : (v : ℕ) → count v listed ≡ count v (uids family r)
  pub once : (v : ℕ) → count v listed ≤ 1
  pub written : list₁ ≡ sets list 0 (flat listed)
  pub labels : w.labels ≡ length (uids family r)
  -- one round, and one for each different ending of 4, 8, .. 60 bits that two or more of them share
  pub counts : w.rounds ≡ 1 + sum_to 15 (λ i. length (shared (4 * suc i) (uids family r)))
  pub bound : w.rounds ≤ 1 + 15 * (length (uids family r) / 2)
  -- all slots and masks are cleared and nothing else has changed
  pub leaves : r₁ ≡ cleared r

-- the call's reply is that of the events sent in turn, and where no refusal applies it keeps the promise
pub record Reply (family : Family) (r r₁ list list₁ : List ℕ) (w : Walked) : Type 0 where
  pub report : w ≡ (walk_of r family list).report
  pub rack : r₁ ≡ (walk_of r family list).rack
  pub written : list₁ ≡ (walk_of r family list).list
  pub promised : w.number ≡ 0 → Promise family r r₁ list list₁ w
