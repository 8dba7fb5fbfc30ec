-- A line: a buffer that is lent, and texts laid into it, one behind the other. Assumes nothing.
use Rattle.std.specs.Prelude.{List, [], ◌++◌, ℕ, length, take, drop, set, Bool, ◌==◌}
use base.Fml.{GName}

-- the text laid, the bytes behind it, and which loan it is
pub record Lent : Type 0 where
  pub text : List ℕ
  pub behind : List ℕ
  pub loan : GName

-- the whole buffer
abbrev pub buffer : Lent → List ℕ
buffer line = line.text ++ line.behind

-- a buffer laid as far as a place
abbrev pub lent : List ℕ → ℕ → GName → Lent
lent bytes at loan = record { text = take at bytes; behind = drop at bytes; loan = loan }

-- a line with a text laid behind what stands in it: of the text as much as there is room for
unfoldable pub laid : Lent → List ℕ → Lent
laid line text = record line { text = line.text ++ take (length line.behind) text; behind = drop (length text) line.behind }

-- with byte i of the text changed, where it has one
abbrev pub marked : Lent → ℕ → ℕ → Lent
marked line i b = record line { text = set line.text i b }

-- with nothing laid any more
abbrev pub cleared : Lent → Lent
cleared line = record line { text = []; behind = buffer line }

abbrev pub full : Lent → Bool
full line = length line.behind == 0
