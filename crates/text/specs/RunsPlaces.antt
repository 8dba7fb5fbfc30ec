-- Not for the reader of the paper: for the contracts of private functions alone, which see a run of hex by its places. Assumes nothing.
use Rattle.std.specs.Prelude.{List, ℕ, get_or, drop, if◌then◌else◌}
use Rattle.text.specs.Hex.{blank_before}
use Rattle.text.specs.Runs.{is_gap, opening, Piece, piece_of}

-- how many bytes are passed over at a place
unfoldable pub passed_at : List ℕ → ℕ → ℕ
passed_at s at = if is_gap (get_or s at 0) then 1 else if opening (drop at s) then 2 else 0

-- what stands at a place, where n bytes were read and there is room for `room`
abbrev pub piece_at : List ℕ → ℕ → ℕ → ℕ → Piece
piece_at s at n room = piece_of room n at (blank_before s at) (drop at s)
