-- A line that is a block: its number, its bytes in hex or as a text in quotes, and `locked`: FORMAT, "Rack as text". Assumes nothing.
use Rattle.std.specs.Prelude.{◌≡◌, not, ◌||◌, List, [], ℕ, zero, suc, ◌-◌, eqb, ltb, leb, length, get_or, replicate, if◌then◌else◌, Result, Ok, Err, ok_or}
use Rattle.std.proofs.lemmas.List.Edits.{sets}
use Rattle.print.specs.Ascii.{ascii}
use Rattle.rack.specs.declared.tag.Kind.{Kind}
use Rattle.text.specs.Hex.{blank_before}
use Rattle.text.specs.Words.{is_blank, lowered}
use Rattle.text.specs.Runs.{is_gap, hex_of}
use Rattle.text.specs.declared.hex.HexError.{HexError}
use Rattle.text.specs.declared.hex.HexError.TheVariants.{Bad, Odd, Full}
use Rattle.verbs.specs.declared.trouble.What.TheVariants as what
use Rattle.verbs.specs.Tokens.{span, word_from, text_of, rest_of, find_in}
use Rattle.verbs.specs.Pieces.{next_is, number_from}
use Rattle.verbs.specs.Data.{place_of}
use Rattle.draft.specs.declared.words.Part.TheVariants as part
use Rattle.draft.specs.declared.words.Why.{Why}
use Rattle.draft.specs.Words.{no_part, no_what, ended, behind}
use Rattle.draft.specs.Bodies.{Draft, draft, taken, lock_bit, block_size, has_block, set_block}

-- ---- a block's bytes

-- what was read of the line, and the bytes
pub record Data : Type 0 where
  pub read : Result ℕ Why
  pub bytes : List ℕ

abbrev pub told : Result ℕ Why → List ℕ → Data
told read bytes = record { read = read; bytes = bytes }

-- a function returned that, and laid the bytes at the front of its buffer
pub record Lays (x : Data) (old : List ℕ) (r : Result ℕ Why) (new : List ℕ) : Type 0 where
  pub tells : r ≡ x.read
  pub leaves : new ≡ sets old 0 x.bytes

-- where n pairs of digits are still to be passed: what is left of them behind one, since `0x` is none
unfoldable pub pairs_left : ℕ → ℕ → ℕ
pairs_left second n = if eqb (lowered second) 120 then n else n - 1

-- the place of pair n of a run, from a place on. A step passes a byte at least, so as many steps as there are bytes are enough
unfoldable pub pair_at : ℕ → List ℕ → ℕ → ℕ → ℕ
pair_at zero s at n = at
pair_at (suc steps) s at n =
    if is_gap (get_or s at 0) then pair_at steps s (place_of at 1) n
    else if eqb n 0 then at
    else pair_at steps s (place_of at 2) (pairs_left (get_or s (place_of at 1) 0) n)

unfoldable pub pair_place : List ℕ → ℕ → ℕ
pair_place s n = pair_at (length s) s 0 n

-- a byte that is no digit ends the bytes where it opens a word
unfoldable pub stopped : List ℕ → ℕ → Result ℕ Why
stopped line at = if blank_before line at then Ok at else Err (no_what at what.Digit)

-- how a run of hex ended that started at a place; a block has `size` bytes
unfoldable pub hex_by : HexError → List ℕ → ℕ → ℕ → Result ℕ Why
hex_by (Bad i) line at size = stopped line (place_of at i)
hex_by (Odd i) line at size = Err (no_what (place_of at i) what.Pair)
hex_by Full line at size = Err (no_part (place_of at (pair_place (rest_of line at) size)) part.NoMore)

abbrev pub hex_read : Result ℕ HexError → List ℕ → ℕ → ℕ → Result ℕ Why
hex_read (Ok n) line at size = Ok (length line)
hex_read (Err e) line at size = hex_by e line at size

unfoldable pub hexed : ℕ → List ℕ → ℕ → Data
hexed size line at = let run = hex_of size (rest_of line at) in told (hex_read run.run line at size) run.bytes

-- behind a text stands a blank or the end of the line
unfoldable pub closed : List ℕ → ℕ → Result ℕ Why
closed line at = if leb (length line) at || is_blank (get_or line at 0) then Ok at else Err (no_what at what.End)

-- a text, from behind its first quote on
unfoldable pub quoted : ℕ → List ℕ → ℕ → Data
quoted size line from =
    let end = find_in line from 34 in
    let s = text_of line (span from end) in
    if leb (length line) end then told (Err (no_what (length line) what.Quote)) []
    else if ltb size (length s) then told (Err (no_part (place_of from size) part.NoMore)) []
    else told (closed line (place_of end 1)) s

unfoldable pub data_from : ℕ → List ℕ → ℕ → Data
data_from size line at =
    let w = word_from line at in
    if eqb (get_or line w.from 0) 34 then quoted size line (place_of w.from 1) else hexed size line at

-- ---- the line

-- a block becomes what was read where the line ends as it should
unfoldable pub finished : Kind → ℕ → List ℕ → List ℕ → ℕ → List ℕ → Draft ℕ
finished kind n bytes line at b =
    let locked = next_is line at (ascii "locked") in
    taken (ended line (behind line at locked)) (λ to. draft (Ok to) (set_block kind n bytes (lock_bit locked) b)) b

-- zeros follow where the bytes are fewer than the block has: `zeros` are as many as that
unfoldable pub block_of : Kind → ℕ → List ℕ → List ℕ → ℕ → List ℕ → Draft ℕ
block_of kind n zeros line at b =
    let d = data_from (length zeros) line at in taken d.read (λ to. finished kind n (sets zeros 0 d.bytes) line to b) b

unfoldable pub block_line : Kind → List ℕ → List ℕ → Draft ℕ
block_line kind line b =
    let f = number_from line 0 in
    taken (ok_or f.value (no_part f.word.from part.Block))
    (λ n.
    if not (has_block kind b n) then draft (Err (no_part f.word.from part.Block)) b
    else block_of kind n (replicate (block_size kind b) 0) line f.word.to b)
    b
