-- What a step writes beside the label's first bytes stays inside the body: by the ways of the step.
-- Assumes nothing.
use mathlib.Core.Path.{◌≡◌}
use mathlib.Core.List.{List}
use Prim.Native.Nat.{ℕ}
use native.Mathlib.Omega.{arith}
use lib.ListN.{get_or}
use Rattle.request.specs.declared.label.Call.{Call}
use Rattle.request.specs.declared.label.Request.{Request}
use Rattle.label.specs.declared.step.Label.{Label}
use Rattle.label.specs.declared.step.Stepped.{Stepped}
use Rattle.label.specs.Step.{act}
use Rattle.label_body.specs.Body.{store_of, load_of, stepped, named}
use Rattle.label_body.specs.Facts.{WorkFits}
use Rattle.label_body.proofs.StepWays.{Way, stays, offs, wakes, moves, starts, says, hushes, selects, readies, drops, writes, locks}
use Rattle.label_body.proofs.StepWays.{afis, dsfids, afi_locks, dsfid_locks, way}
use Rattle.label_body.proofs.BodyStored.{stored_between}

way_fits : {call : Call} {count lock : ℕ} {l : Label} {s : Stepped} (b : List ℕ) → get_or b 11 0 ≡ l.blocks → get_or b 12 0 ≡ l.size
    → Way call count lock l s → WorkFits s.work count b
unfolding WorkFits
way_fits b e f stays = tt
way_fits b e f offs = tt
way_fits b e f (wakes x) = tt
way_fits b e f (moves t x) = tt
way_fits b e f (starts t m x y z) = tt
way_fits b e f (says x y) = tt
way_fits b e f hushes = tt
way_fits b e f selects = tt
way_fits b e f readies = tt
way_fits b e f drops = tt
way_fits b e f (writes n x y z u) = (rw e z, rw f y)
way_fits b e f (locks n x y z) = rw e y
way_fits b e f (afis v x y) = tt
way_fits b e f (dsfids v x y) = tt
way_fits b e f (afi_locks x) = tt
way_fits b e f (dsfid_locks x) = tt

act_fits : (r : Request) (count lock : ℕ) (l : Label) (b : List ℕ) → get_or b 11 0 ≡ l.blocks → get_or b 12 0 ≡ l.size
    → WorkFits (act r count lock l).work count b
act_fits r count lock l b e f = way_fits b e f (way r count lock l)

-- as the step in place needs it: after its label is stored
pub step_fits : (r : Request) (count : ℕ) (b : List ℕ) (l : Label) → WorkFits (stepped r count b).work count (store_of b l)
unfolding stepped load_of
step_fits r count b l =
    act_fits r count (named r.call b) (load_of b) (store_of b l) (stored_between b l 11 (omega arith) (omega arith))
    (stored_between b l 12 (omega arith) (omega arith))
