-- The words of a rack as text that a number or a test chooses. Assumes nothing.
use Rattle.std.specs.Prelude.{Bool, List, [], ℕ, eqb, ltb, if◌then◌else◌}
use Rattle.print.specs.Ascii.{ascii}

unfoldable pub label_state : ℕ → List ℕ
label_state s =
    if eqb s 0 then ascii "off"
    else if eqb s 1 then ascii "ready"
    else if eqb s 2 then ascii "quiet"
    else ascii "selected"

unfoldable pub chip_state : ℕ → List ℕ
chip_state s =
    if eqb s 0 then ascii "off"
    else if eqb s 1 then ascii "ready"
    else if eqb s 2 then ascii "inventory"
    else if eqb s 3 then ascii "selected"
    else if eqb s 4 then ascii "deselected"
    else ascii "deactivated"

-- 1 is yes
unfoldable pub yes_or_no : ℕ → List ℕ
yes_or_no n = if eqb n 1 then ascii "yes" else ascii "no"

-- behind a field that is locked
unfoldable pub lock_mark : Bool → List ℕ
lock_mark locked = if locked then ascii " locked" else []

-- behind the bytes of a block, as wide where it is not locked
unfoldable pub lock_column : Bool → List ℕ
lock_column locked = if locked then ascii "  locked" else ascii "        "

-- blanks behind the number of a block, up to three characters in all
unfoldable pub blanks_behind : ℕ → List ℕ
blanks_behind n = if ltb n 10 then ascii "  " else if ltb n 100 then ascii " " else []

unfoldable pub tags_word : ℕ → List ℕ
tags_word n = if eqb n 1 then ascii " tag, " else ascii " tags, "
