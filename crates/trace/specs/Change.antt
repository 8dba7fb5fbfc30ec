-- The words of one change. A change opens with a comma. Assumes nothing.
use Rattle.std.specs.Prelude.{Bool, true, false, ◌&&◌, List, [], ◌∷◌, ◌++◌, ℕ, zero, suc, eqb, get_or, if◌then◌else◌}
use Rattle.print.specs.Ascii.{ascii}
use Rattle.print.specs.Decimal.{decimal_text}
use Rattle.print.specs.Hex.{hex_text, pairs_text}
use Rattle.print.specs.Quote.{printable, quoted_text}

-- words, where something is so
unfoldable pub when_text : Bool → List ℕ → List ℕ
when_text told s = if told then s else []

unfoldable pub changed_text : List ℕ → ℕ → List ℕ
changed_text name b = name ++ pairs_text (b ∷ [])

-- a byte by its name, where it changed
unfoldable pub byte_change : List ℕ → ℕ → ℕ → List ℕ
byte_change name old new = if eqb old new then [] else changed_text name new

-- what was not so is so
unfoldable pub rose : Bool → Bool → Bool
rose old new = if old then false else new

-- n bytes from a place on are the same
unfoldable pub same_bytes : ℕ → ℕ → List ℕ → List ℕ → Bool
same_bytes zero at a b = true
same_bytes (suc n) at a b = eqb (get_or a at 0) (get_or b at 0) && same_bytes n (suc at) a b

-- ---- a block, as text where its bytes can be read

unfoldable pub block_name : ℕ → List ℕ
block_name n = ascii ", block " ++ decimal_text n

unfoldable pub quoted_block : ℕ → List ℕ → List ℕ
quoted_block n s = block_name n ++ ((32 ∷ []) ++ quoted_text s)

unfoldable pub hex_block : ℕ → List ℕ → List ℕ
hex_block n s = block_name n ++ hex_text s

unfoldable pub content_text : ℕ → List ℕ → List ℕ
content_text n s = if printable s then quoted_block n s else hex_block n s

unfoldable pub lock_text : ℕ → List ℕ
lock_text n = block_name n ++ ascii " locked"

unfoldable pub lock_change : Bool → Bool → ℕ → List ℕ
lock_change old new n = if rose old new then lock_text n else []

-- ---- the first comma of a line is a colon

unfoldable pub coloned : List ℕ → List ℕ
coloned [] = []
coloned (c ∷ s) = 58 ∷ s
