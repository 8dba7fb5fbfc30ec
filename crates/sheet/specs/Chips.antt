-- A chip as text. Assumes nothing.
use Rattle.std.specs.Prelude.{Bool, false, List, [], ◌∷◌, ◌++◌, ℕ, eqb, ltb, if◌then◌else◌}
use Rattle.frame.specs.Choose.{gather}
use Rattle.chip.specs.declared.step.Chip.{Chip}
use Rattle.chip.specs.Write.{locked}
use Rattle.chip_body.specs.Body.{load_of, bytes_at, block_of, uid_of}
use Rattle.print.specs.Ascii.{ascii}
use Rattle.print.specs.Hex.{pairs_text, uid_text}
use Rattle.sheet.specs.Words.{chip_state, yes_or_no}
use Rattle.sheet.specs.Blocks.{block_line, counter_line, tag_line}

unfoldable pub id_field : Chip → List ℕ
id_field c = ascii "  id " ++ pairs_text (c.id ∷ [])

unfoldable pub option_fields : Chip → List ℕ
option_fields c = ascii "  fixed " ++ (yes_or_no c.fixed ++ (ascii "  reload " ++ yes_or_no c.reload))

unfoldable pub chip_line : Chip → List ℕ
chip_line c = ascii "  state " ++ (chip_state c.state ++ (id_field c ++ (option_fields c ++ ascii "\n")))

unfoldable pub chip_head : ℕ → List ℕ → List ℕ
chip_head i b = tag_line (ascii "chip ") (uid_text (uid_of b)) i ++ chip_line (load_of b)

-- block n holds v as a new chip's does: all ones in 0 to 4, zeros in 7 to 15; 5, 6 and 255 are told always
unfoldable pub as_new : ℕ → ℕ → Bool
as_new n v =
    if ltb n 5 then eqb v 0xFFFFFFFF
    else if ltb n 7 then false
    else if ltb n 16 then eqb v 0
    else false

-- 5 and 6
unfoldable pub counter? : ℕ → Bool
counter? n = if ltb n 5 then false else ltb n 7

unfoldable pub chip_block_line : List ℕ → ℕ → Bool → List ℕ
chip_block_line b n lock =
    if counter? n then counter_line n (bytes_at n b) lock (block_of n b)
    else block_line n (bytes_at n b) lock

-- the line of block n, or nothing where it is as in a new chip and not locked
unfoldable pub chip_block : List ℕ → ℕ → List ℕ
chip_block b n =
    if locked (block_of 255 b) n then chip_block_line b n (locked (block_of 255 b) n)
    else if as_new n (block_of n b) then []
    else chip_block_line b n (locked (block_of 255 b) n)

unfoldable pub chip_text : ℕ → List ℕ → List ℕ
chip_text i b = chip_head i b ++ (gather 16 (chip_block b) ++ chip_block b 255)
