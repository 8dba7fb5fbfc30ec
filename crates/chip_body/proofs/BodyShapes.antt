-- What code needs of the definitions: where a block stands, and that only a write names a block. By the cases of a test, or of the enum.
-- Assumes nothing.
use mathlib.Core.Path.{◌≡◌, refl}
use mathlib.Core.List.{List}
use Prim.Native.Nat.{ℕ, ◌+◌, ◌*◌, ◌≤◌}
use native.Mathlib.Omega.{arith}
use lib.Dec.{ltb}
use borrow.Author.Tests.{ltb-true}
use Rattle.frame.proofs.Bools.{if_either}
use Rattle.request.specs.declared.chip.Order.{Order}
use Rattle.request.specs.declared.chip.Order.TheVariants as o
use Rattle.chip_body.specs.Body.{named, place_of}

-- a block stands before the UID
pub place_fits : (n : ℕ) → place_of n + 4 ≤ 68
unfolding place_of
place_fits n = if_either (λ (x : ℕ). x + 4 ≤ 68) (ltb n 16) (4 * n) 64 (λ e. omega (arith, ltb-true n 16 e)) (λ e. omega arith)

-- only a write names a block, as an arm knows it
pub unnamed_not : (x : Order) (b : List ℕ) → ((n v : ℕ) → x ≡ o.Write n v → ⊥) → 0 ≡ named x b
unfolding named
unnamed_not o.Ignored b k = refl
unnamed_not o.Off b k = refl
unnamed_not o.On b k = refl
unnamed_not o.Initiate b k = refl
unnamed_not o.Pcall b k = refl
unnamed_not (o.Marker n) b k = refl
unnamed_not (o.Select id) b k = refl
unnamed_not o.Completion b k = refl
unnamed_not o.Reset b k = refl
unnamed_not (o.Read n) b k = refl
unnamed_not o.Uid b k = refl
unnamed_not (o.Write n v) b k = absurd (k n v refl)
