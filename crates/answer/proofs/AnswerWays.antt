-- What the code reads whole is all that there is.
-- Assumes nothing.
use mathlib.Core.Path.{◌≡◌}
use mathlib.Core.List.{List}
use Prim.Native.Nat.{ℕ}
use native.Mathlib.Omega.{arith}
use lib.ListN.{length}
use lib.Seq.{take_all}
use Rattle.frame.specs.Number.{part}

pub all_there : (k : ℕ) (c : List ℕ) → length c ≡ k → part 0 k c ≡ c
all_there k c h = take_all k c (omega arith)
