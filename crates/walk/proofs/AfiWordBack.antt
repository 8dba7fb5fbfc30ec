-- Every AFI can be asked for: the two digits that name a byte are read as it. Assumes nothing.
use mathlib.Core.Path.{◌≡◌, ap, ap₂, ◌∙◌}
use mathlib.Core.List.{[], ◌∷◌}
use Prim.Native.Nat.{ℕ, ◌+◌, ◌*◌, ◌/◌, ◌%◌, ◌<◌}
use native.Mathlib.Omega.{arith}
use Rattle.print.specs.Hex.{pairs_text}
use Rattle.text.proofs.HexDigits.{value_digit}
use Rattle.std.specs.Prelude.{Some}
use Rattle.walk.specs.AfiWord.{by_digits, afi_in}

pub afi_back : (b : ℕ) → b < 256 → afi_in (pairs_text (b ∷ [])) ≡ Some b
unfolding afi_in by_digits
afi_back b h =
    let e : b / 16 * 16 + b % 16 ≡ b = omega arith in
    ap₂ by_digits (value_digit (b / 16) (omega arith)) (value_digit (b % 16) (omega arith)) ∙ ap Some e
