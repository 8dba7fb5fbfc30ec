-- A number that its low bits make up is one below their power of two: the code asks the one, the definition says the other.
-- Assumes nothing.
use mathlib.Core.Path.{◌≡◌}
use mathlib.Core.Bool.{true}
use Prim.Native.Nat.{ℕ, ◌%◌, ◌^◌}
use native.Mathlib.Nat.{mod-lt, mod-eq_of_lt}
use lib.Dec.{eqb, ltb}
use lib.Pow.{pow_pos}
use borrow.Author.Tests.{lt-ltb, eq-eqb, eqb-true, ltb-true}
use Rattle.frame.proofs.Bools.{bool_same}

pub mask_kept : (bits mask : ℕ) → eqb (mask % 2 ^ bits) mask ≡ ltb mask (2 ^ bits)
mask_kept bits mask = bool_same (eqb (mask % 2 ^ bits) mask) (ltb mask (2 ^ bits)) below above
  where
    below : eqb (mask % 2 ^ bits) mask ≡ true → ltb mask (2 ^ bits) ≡ true
    below z = lt-ltb mask (2 ^ bits) (rw (eqb-true (mask % 2 ^ bits) mask z) at (mod-lt mask (pow_pos bits)))

    above : ltb mask (2 ^ bits) ≡ true → eqb (mask % 2 ^ bits) mask ≡ true
    above z = eq-eqb (mask % 2 ^ bits) mask (mod-eq_of_lt (ltb-true mask (2 ^ bits) z))
