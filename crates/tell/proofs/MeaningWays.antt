-- The words of error 12 go by what the command writes, whatever that is known as. Assumes nothing.
use mathlib.Core.Path.{◌≡◌}
use mathlib.Core.Bool.{Bool}
use mathlib.Core.List.{List}
use Prim.Native.Nat.{ℕ}
use Rattle.print.specs.Puts.{Puts}
use Rattle.tell.specs.Meanings.{denied_words}

module _ {at : ℕ} {old new : List ℕ} {r : ℕ} where
  pub denied_has_words : (writes k : Bool) → writes ≡ k → Puts (denied_words k) at old new r → Puts (denied_words writes) at old new r
  denied_has_words writes k e p = rw e p
