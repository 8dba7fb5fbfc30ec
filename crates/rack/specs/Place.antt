-- Whose a place of a rack file is, also of one that is not well-formed. Assumes nothing.
use Rattle.std.specs.Prelude.{◌≡◌, List, ℕ, zero, suc, ◌+◌, ◌-◌, ◌/◌, ◌%◌, ltb, if◌then◌else◌}
use Rattle.rack.specs.File.{count_of, kind_at, start_of}
use Rattle.rack.specs.declared.place.Held.{Held}

-- the tag whose entry holds a place, and where in that entry it stands
abbrev pub entry_of : ℕ → ℕ
entry_of place = (place - 2) / 8

abbrev pub within_entry : ℕ → ℕ
within_entry place = (place - 2) % 8

-- the first tag, of the k from i on, whose body ends behind a place
abbrev pub holder_on : List ℕ → ℕ → ℕ → ℕ → ℕ
holder_on r place i zero = i
holder_on r place i (suc k) = if ltb place (start_of r (i + 1)) then i else holder_on r place (i + 1) k

-- the tag whose body holds a place
unfoldable pub holder_of : List ℕ → ℕ → ℕ
holder_of r place = holder_on r place 0 (count_of r)

-- its number, where its body starts, and its kind
pub record IsHeld (r : List ℕ) (place : ℕ) (h : Held) : Type 0 where
  pub tag : h.tag ≡ holder_of r place
  pub start : h.start ≡ start_of r (holder_of r place)
  pub kind : h.kind ≡ kind_at r (holder_of r place)
