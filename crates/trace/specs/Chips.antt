-- What changed of a chip: its body before, a, and behind an event, b. Assumes nothing.
use Rattle.std.specs.Prelude.{Bool, false, not, ◌||◌, List, [], ◌∷◌, ◌++◌, ℕ, eqb, ltb, length, get_or, if◌then◌else◌}
use Rattle.frame.specs.Choose.{gather}
use Rattle.frame.specs.Number.{part}
use Rattle.chip.specs.Write.{locked}
use Rattle.chip_body.specs.Body.{place_of, block_of}
use Rattle.print.specs.Ascii.{ascii}
use Rattle.print.specs.Decimal.{decimal_text}
use Rattle.print.specs.Hex.{uid_text}
use Rattle.trace.specs.Change.{byte_change, same_bytes, content_text, lock_change, coloned}

unfoldable pub state_words : ℕ → List ℕ
state_words s =
    if eqb s 0 then ascii ", off"
    else if eqb s 1 then ascii ", ready"
    else if eqb s 2 then ascii ", inventory"
    else if eqb s 3 then ascii ", selected"
    else if eqb s 4 then ascii ", deselected"
    else ascii ", deactivated"

unfoldable pub state_change : ℕ → ℕ → List ℕ
state_change old new = if eqb old new then [] else state_words new

unfoldable pub became_text : ℕ → List ℕ
became_text on = if eqb on 1 then ascii ", reload on" else ascii ", reload off"

unfoldable pub reload_change : ℕ → ℕ → List ℕ
reload_change old new = if eqb old new then [] else became_text new

-- state (76), Chip_ID (77), reload (78)
unfoldable pub chip_fields : List ℕ → List ℕ → List ℕ
chip_fields a b =
    state_change (get_or a 76 0) (get_or b 76 0)
    ++ (byte_change (ascii ", Chip_ID ") (get_or a 77 0) (get_or b 77 0)
    ++ reload_change (get_or a 78 0) (get_or b 78 0))

unfoldable pub counter_text : ℕ → ℕ → List ℕ
counter_text n v = ascii ", counter " ++ (decimal_text n ++ (ascii " is " ++ decimal_text v))

-- blocks 5 and 6 count down
unfoldable pub is_counter : ℕ → Bool
is_counter n = eqb n 5 || eqb n 6

unfoldable pub word_text : List ℕ → ℕ → List ℕ
word_text b n = if is_counter n then counter_text n (block_of n b) else content_text n (part (place_of n) 4 b)

unfoldable pub word_change : List ℕ → List ℕ → ℕ → List ℕ
word_change a b n = if same_bytes 4 (place_of n) a b then [] else word_text b n

-- block 255 locks
unfoldable pub word_lock : List ℕ → List ℕ → ℕ → List ℕ
word_lock a b n = lock_change (locked (block_of 255 a) n) (locked (block_of 255 b) n) n

unfoldable pub chip_block : List ℕ → List ℕ → ℕ → List ℕ
chip_block a b n = word_change a b n ++ word_lock a b n

unfoldable pub chip_blocks : List ℕ → List ℕ → List ℕ
chip_blocks a b = gather 16 (chip_block a b)

unfoldable pub chip_changes : List ℕ → List ℕ → List ℕ
chip_changes a b = chip_fields a b ++ (chip_blocks a b ++ word_change a b 255)

unfoldable pub coloned_changes : List ℕ → List ℕ → List ℕ
coloned_changes a b = coloned (chip_changes a b)

unfoldable pub chip_told : List ℕ → List ℕ → Bool
chip_told a b = if ltb (length a) 80 then false else not (same_bytes 80 0 a b)

unfoldable pub told_line : List ℕ → List ℕ → List ℕ
told_line a b = ascii "  chip " ++ (uid_text (part 68 8 b) ++ (coloned_changes a b ++ (10 ∷ [])))

unfoldable pub chip_line : List ℕ → List ℕ → List ℕ
chip_line a b = if chip_told a b then told_line a b else []
