-- A frame, and only a frame, leaves the residue: `right_run`, at each value of the flag.
-- Assumes nothing.
use mathlib.Core.Path.{◌≡◌, sym, ap₂, ◌∙◌}
use mathlib.Core.Bool.{Bool}
use mathlib.Core.List.{List}
use Prim.Native.Nat.{ℕ, ◌≤◌, ◌<◌, ◌^◌}
use lib.Dec.{eqb}
use lib.ListN.{length}
use borrow.Author.Tests.{lt-leb}
use Rattle.frame.specs.Number.{Bytes}
use Rattle.frame.specs.CheckSum.{crc_run, right_with}
use Rattle.frame.proofs.CheckSumRegister.{residue}
use Rattle.frame.proofs.CheckSumFrames.{right_run, right_short}
use Rattle.frame.proofs.check_sum.right_with.Goals as goal
use Rattle.frame.proofs.check_sum.right_with.Goals.{then-inverted, else-inverted}

by-residue : (start : ℕ) (inv : Bool) (s : List ℕ) (r k : ℕ) → start < 2 ^ 16 → 2 ≤ length s → Bytes s → r ≡ crc_run start s → k ≡ residue inv
    → eqb r k ≡ right_with start inv s
by-residue start inv s r k hs l bs e q = ap₂ eqb e q ∙ sym (right_run start inv hs s l bs)

pub returns-then-s-ge2 : goal.returns-then-s-ge2
returns-then-s-ge2 c =
    by-residue _ _ _ _ c.if-inverted.residue c.ranges.start.fits c.if-s-ge2.true (λ i. (c.type_inv.s i).fits) c.run.ensures
    (elim c.if-inverted.branch [ then-inverted w ↦ cc | else-inverted w ↦ cc ])

pub returns-else-s-ge2 : goal.returns-else-s-ge2
returns-else-s-ge2 c = lt-leb _ _ c.if-s-ge2.false ∙ sym (right_short _ _ _ c.if-s-ge2.false)
