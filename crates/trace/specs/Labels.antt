-- What changed of a label: its body before, a, and behind an event, b. Assumes nothing.
use Rattle.std.specs.Prelude.{Bool, true, false, not, List, [], ◌∷◌, ◌++◌, ℕ, ◌-◌, ◌/◌, ◌%◌, eqb, ltb, length, get_or, if◌then◌else◌}
use Rattle.frame.specs.Choose.{gather}
use Rattle.frame.specs.Number.{part}
use Rattle.label_body.specs.Body.{blocks_of, size_of, block_at, wanted_of, Sized}
use Rattle.std.specs.Coded.{Coded-set, coded_ℕ}
use Rattle.label_body.specs.Locks.{lock_on}
use Rattle.print.specs.Ascii.{ascii}
use Rattle.print.specs.Hex.{uid_text}
use Rattle.trace.specs.Change.{when_text, byte_change, rose, same_bytes, content_text, lock_change, coloned}

unfoldable pub state_words : ℕ → List ℕ
state_words s =
    if eqb s 0 then ascii ", off"
    else if eqb s 1 then ascii ", ready"
    else if eqb s 2 then ascii ", quiet"
    else ascii ", selected"

unfoldable pub state_change : ℕ → ℕ → List ℕ
state_change old new = if eqb old new then [] else state_words new

-- a bit of a byte, by its weight, that was not set and is
unfoldable pub bit_change : List ℕ → ℕ → ℕ → ℕ → List ℕ
bit_change s weight old new = when_text (rose (eqb (old / weight % 2) 1) (eqb (new / weight % 2) 1)) s

-- state (14), AFI (9), DSFID (8) and their locks (10)
unfoldable pub label_fields : List ℕ → List ℕ → List ℕ
label_fields a b =
    state_change (get_or a 14 0) (get_or b 14 0)
    ++ (byte_change (ascii ", AFI ") (get_or a 9 0) (get_or b 9 0)
    ++ (byte_change (ascii ", DSFID ") (get_or a 8 0) (get_or b 8 0)
    ++ (bit_change (ascii ", AFI locked") 1 (get_or a 10 0) (get_or b 10 0)
    ++ bit_change (ascii ", DSFID locked") 2 (get_or a 10 0) (get_or b 10 0))))

unfoldable pub block_content : List ℕ → List ℕ → ℕ → List ℕ
block_content a b n = if same_bytes (size_of b) (block_at b n) a b then [] else content_text n (part (block_at b n) (size_of b) b)

unfoldable pub block_lock : List ℕ → List ℕ → ℕ → List ℕ
block_lock a b n = lock_change (eqb (lock_on n a) 1) (eqb (lock_on n b) 1) n

unfoldable pub block_change : List ℕ → List ℕ → ℕ → List ℕ
block_change a b n = block_content a b n ++ block_lock a b n

unfoldable pub block_changes : List ℕ → List ℕ → List ℕ
block_changes a b = gather (blocks_of b) (block_change a b)

unfoldable pub label_changes : List ℕ → List ℕ → List ℕ
label_changes a b = label_fields a b ++ block_changes a b

unfoldable pub coloned_changes : List ℕ → List ℕ → List ℕ
coloned_changes a b = coloned (label_changes a b)

-- bytes 8 to 14, or those behind the slot and mask; a body before that is shorter has nothing to be told from
unfoldable pub label_told : List ℕ → List ℕ → Bool
label_told a b =
    if ltb (length a) (length b) then false
    else if same_bytes 7 8 a b then not (same_bytes (length b - 32) 32 a b)
    else true

unfoldable pub told_line : List ℕ → List ℕ → List ℕ
told_line a b = ascii "  label " ++ (uid_text (part 0 8 b) ++ (coloned_changes a b ++ (10 ∷ [])))

unfoldable pub label_line : List ℕ → List ℕ → List ℕ
label_line a b = if label_told a b then told_line a b else []

-- not for the reader of the paper: that a body has the length that it names is a fact, which has one proof
pub sized_prop : (b : List ℕ) → IsProp (Sized b)
unfolding Sized
sized_prop b = Coded-set coded_ℕ (length b) (wanted_of b)
