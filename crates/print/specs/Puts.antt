-- A text laid into a buffer. Assumes nothing.
use Rattle.std.specs.Prelude.{◌≡◌, List, [], ◌∷◌, ℕ, zero, suc, ◌+◌, leb, length, if◌then◌else◌}
use Rattle.std.proofs.lemmas.List.Edits.{sets}

-- a place, but the end where it is past that
unfoldable pub within : ℕ → ℕ → ℕ
within end n = if leb n end then n else end

-- s was laid into a buffer from place `at` on, as far as there is room, and r is the place behind it
pub record Puts (s : List ℕ) (at : ℕ) (old new : List ℕ) (r : ℕ) : Type 0 where
  pub laid : new ≡ sets old at s
  pub behind : r ≡ within (length old) (at + length s)

abbrev pub spaces : ℕ → List ℕ
spaces zero = []
spaces (suc n) = 32 ∷ spaces n
