-- Bytes that can be read as text. Assumes nothing.
use Rattle.std.specs.Prelude.{Bool, ◌&&◌, List, ◌++◌, ℕ, leb}
use Rattle.std.specs.List.{list_all}
use Rattle.print.specs.Ascii.{ascii}

-- a byte that shows: 20 to 7E
unfoldable pub visible : ℕ → Bool
visible b = leb 0x20 b && leb b 0x7E

abbrev pub printable : List ℕ → Bool
printable s = list_all visible s

-- a text between quotes
unfoldable pub quoted_text : List ℕ → List ℕ
quoted_text s = ascii "\"" ++ (s ++ ascii "\"")
