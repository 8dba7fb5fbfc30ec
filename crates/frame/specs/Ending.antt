-- Document 01, "Labels": a label answers when its UID ends in the mask, with the four bits of the slot above it if sixteen. Assumes nothing.
use Rattle.std.specs.Prelude.{Bool, ◌&&◌, List, ℕ, ◌+◌, ◌*◌, ◌/◌, ◌%◌, ◌^◌, eqb}
use Rattle.frame.specs.Number.{num, part}

-- a UID ends in a mask of so many bits; the mask is a number below 2 ^ bits
unfoldable pub ends_in : List ℕ → ℕ → ℕ → Bool
ends_in uid mask bits = eqb (num uid % 2 ^ bits) mask

-- and the four bits above the mask are the slot
unfoldable pub ends_in_slot : List ℕ → ℕ → ℕ → ℕ → Bool
ends_in_slot uid mask bits slot = ends_in uid mask bits && eqb (num uid / 2 ^ bits % 16) slot

-- the mask with the slot above it: four bits longer
abbrev pub longer : ℕ → ℕ → ℕ → ℕ
longer mask bits slot = slot * 2 ^ bits + mask

-- as few bytes as hold so many bits
unfoldable pub bytes_for : ℕ → ℕ
bytes_for bits = (bits + 7) / 8

-- the mask of so many bits at a place of a frame; what is above it is ignored
unfoldable pub mask_at : List ℕ → ℕ → ℕ → ℕ
mask_at s at bits = num (part at (bytes_for bits) s) % 2 ^ bits
