-- The lines of a rack's text. Assumes nothing.
use Rattle.std.specs.Prelude.{ℕ, zero, suc, ◌+◌, ◌-◌, Bool, true, List, [], ◌∷◌, length, take, ◌==◌, nat_le, slice_index, if◌then◌else◌}
use Rattle.print.specs.Ascii.{ascii}
use Rattle.text.specs.Mark.{mark_length}
use Rattle.verbs.specs.Tokens.{span, text_of, find_in}
use Rattle.verbs.specs.Pieces.{next_is}
use Rattle.verbs.specs.Data.{place_of}

-- a line's bytes, without a carriage return right before its newline, and how many stand before that newline
pub record Line : Type 0 where
  pub bytes : List ℕ
  pub long : ℕ

-- s[from..to], which a newline ends or the text
unfoldable pub line_of : List ℕ → ℕ → ℕ → List ℕ
line_of text from to =
    let line = text_of text (span from to) in
    if length line == 0 then line
    else if nat_le (length text) to then line
    else if slice_index line (length line - 1) == 13 then take (length line - 1) line
    else line

-- from a place on. Each line takes a byte at least, its newline or what stands in it, so as many steps as the text has bytes are enough
unfoldable pub lines_from : ℕ → List ℕ → ℕ → List Line
lines_from zero text at = []
lines_from (suc steps) text at =
    let to = find_in text at 10 in
    if nat_le (length text) at then []
    else record { bytes = line_of text at to; long = to - at } ∷ lines_from steps text (place_of to 1)

-- behind a UTF-8 mark, where one stands
unfoldable pub lines_of : List ℕ → List Line
lines_of text = lines_from (length text) text (mark_length text)

-- a line opens a tag
unfoldable pub opens_tag : List ℕ → Bool
opens_tag line = if next_is line 0 (ascii "label") then true else next_is line 0 (ascii "chip")

-- how many do: for so many tags entries are kept free
unfoldable pub tags_in : List Line → ℕ
tags_in [] = 0
tags_in (l ∷ ls) = (if opens_tag l.bytes then 1 else 0) + tags_in ls
