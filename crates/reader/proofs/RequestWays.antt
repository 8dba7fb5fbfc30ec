-- The three ways out of the request writer: too little room, no such request, and the request written.
-- Assumes nothing.
use mathlib.Core.Path.{◌≡◌, sym, ap, ◌∙◌}
use mathlib.Core.Bool.{Bool, true, false, not}
use mathlib.Core.List.{List}
use Prim.Native.Nat.{ℕ, ◌≤◌, ◌<◌}
use lib.ListN.{length}
use borrow.Author.Tests.{lt-ltb, le-ltb, not-true, not-false}
use Rattle.frame.specs.CheckSum.{framed}
use Rattle.reader.specs.declared.command.Command.{Command}
use Rattle.reader.specs.declared.writer.Plan.{Plan}
use Rattle.reader.specs.Command.{valid}
use Rattle.reader.specs.Request.{content, encode, least, at_front, refusal_of, written_of, out_of, Wrote}
use Rattle.reader.specs.Plan.{parts_of, plan_of, Ranged, PlanFits}
use Rattle.reader.proofs.PlanParts.{plan_right, plan_fits}

pub short_way : (c : Command) (uid d old : List ℕ) → length old < least
    → Wrote c uid d old (record { number = 3; «length» = 0 }) old
unfolding written_of out_of refusal_of
short_way c uid d old h = record { report = rw (lt-ltb (length old) least h); left = rw (lt-ltb (length old) least h) }

pub wrong_way : (c : Command) (uid d old : List ℕ) (b : Bool) → least ≤ length old → b ≡ valid c (length d) → not b ≡ true
    → Wrote c uid d old (record { number = 7; «length» = 0 }) old
unfolding written_of out_of refusal_of
wrong_way c uid d old b h v g =
    let l = le-ltb (length old) least h in
    record { report = rw (l, ← v, not-true b g); left = rw (l, ← v, not-true b g) }

module _ (c : Command) (q : Plan) (b : Bool) (g : not b ≡ false) where
  pub lay_may : (n room : ℕ) → least ≤ room → b ≡ valid c n → (q ≡ plan_of c n) × Ranged c → PlanFits q n room
  lay_may n room h v e = rw e.0 (plan_fits c n room (sym v ∙ not-false b g) h)

  pub right_way : (uid d old now : List ℕ) (r : ℕ) → least ≤ length old → length uid ≡ 8 → b ≡ valid c (length d)
      → (q ≡ plan_of c (length d)) × Ranged c
      → (r ≡ length (framed (parts_of q uid d))) × (now ≡ at_front (framed (parts_of q uid d)) old)
      → Wrote c uid d old (record { number = 0; «length» = r }) now
  unfolding written_of out_of refusal_of encode
  right_way uid d old now r h lu v f e =
      let l = le-ltb (length old) least h in
      let w : valid c (length d) ≡ true = sym v ∙ not-false b g in
      let k : parts_of q uid d ≡ content c uid d = ap (λ (x : Plan). parts_of x uid d) f.0 ∙ plan_right c uid d w f.1 lu in
      record { report = rw (l, w) (ap (λ (n : ℕ). record { number = 0; «length» = n }) (rw k at e.0)); left = rw (l, w) (rw k at e.1) }
