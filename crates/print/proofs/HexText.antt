-- Bytes in hex behind spaces, one more. Assumes nothing.
use mathlib.Core.Path.{◌≡◌, refl, ap}
use mathlib.Core.List.{List, [], ◌∷◌, ◌++◌}
use Prim.Native.Nat.{ℕ, ◌+◌, ◌/◌, ◌%◌, ◌<◌}
use native.Mathlib.Numerals.{add-one}
use lib.ListN.{length, get_or, take}
use lib.Seq.{take-suc}
use Rattle.print.specs.Hex.{digit_of, hex_text}

hex_append : (s t : List ℕ) → hex_text (s ++ t) ≡ hex_text s ++ hex_text t
hex_append [] t = refl
hex_append (b ∷ s) t = ap (λ (x : List ℕ). 32 ∷ digit_of (b / 16) ∷ digit_of (b % 16) ∷ x) (hex_append s t)

-- one byte more
pub hex_more : (s : List ℕ) (i : ℕ) → i < length s → hex_text (take (i + 1) s) ≡ hex_text (take i s) ++ hex_text (get_or s i 0 ∷ [])
hex_more s i h = rw (add-one, take-suc s i 0 h) (hex_append (take i s) (get_or s i 0 ∷ []))
