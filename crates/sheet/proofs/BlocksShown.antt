-- Bytes as ASCII, part by part. Assumes nothing.
use mathlib.Core.Path.{◌≡◌, refl, ap}
use mathlib.Core.List.{List, [], ◌∷◌, ◌++◌}
use Prim.Native.Nat.{ℕ, ◌+◌, ◌<◌}
use native.Mathlib.Numerals.{add-one}
use lib.ListN.{length, get_or, take}
use lib.Seq.{take-suc}
use Rattle.sheet.specs.Blocks.{shown, shown_text}

shown_append : (s t : List ℕ) → shown_text (s ++ t) ≡ shown_text s ++ shown_text t
shown_append [] t = refl
shown_append (b ∷ s) t = ap (λ (x : List ℕ). shown b ∷ x) (shown_append s t)

-- one byte more
pub shown_more : (s : List ℕ) (i : ℕ) → i < length s → shown_text (take (i + 1) s) ≡ shown_text (take i s) ++ shown_text (get_or s i 0 ∷ [])
shown_more s i h = rw (add-one, take-suc s i 0 h) (shown_append (take i s) (get_or s i 0 ∷ []))
