-- What an answer means, in words. Assumes nothing.
use Rattle.std.specs.Prelude.{Bool, true, false, List, [], ◌++◌, ℕ, ◌+◌, ◌*◌, eqb, get_or, if◌then◌else◌}
use Rattle.frame.specs.Choose.{all_of, gather}
use Rattle.frame.specs.Number.{bytes_of, part}
use Rattle.print.specs.Ascii.{ascii}
use Rattle.print.specs.Decimal.{decimal_text}
use Rattle.print.specs.Hex.{uid_text}
use Rattle.print.specs.Named.{word_byte, word_number}
use Rattle.print.specs.Quote.{printable, quoted_text}
use Rattle.request.specs.Table.{row_of}
use Rattle.request.specs.declared.signal.Signal.{Signal}
use Rattle.reader.specs.declared.command.Command.{Command}
use Rattle.reader.specs.declared.command.Command.TheVariants.{Inventory, Label, Chip, Other}
use Rattle.answer.specs.declared.reading.Meaning.{Meaning}
use Rattle.answer.specs.declared.reading.Meaning.TheVariants as m
use Rattle.answer.specs.declared.reading.Reading.{Reading}
use Rattle.tell.specs.Commands.{command_of, reading_for}

-- whether a command writes a block of a label
unfoldable pub writes_block : Command → Bool
writes_block (Inventory to option family sixteen bits mask) = false
writes_block (Label to option task p) = (row_of task).block
writes_block (Chip to option task) = false
writes_block (Other kind code) = false

-- the block that a command for labels asks for first
unfoldable pub first_of : Command → ℕ
first_of (Inventory to option family sixteen bits mask) = 0
first_of (Label to option task p) = p.first
first_of (Chip to option task) = 0
first_of (Other kind code) = 0

-- ---- errors

-- error 12: of a block that is written, or of anything else
unfoldable pub denied_words : Bool → List ℕ
denied_words true = ascii ": block is locked"
denied_words false = ascii ": locked"

unfoldable pub error_words : Bool → ℕ → List ℕ
error_words writes code =
    if eqb code 0x01 then ascii ": no such command"
    else if eqb code 0x02 then ascii ": wrong length"
    else if eqb code 0x03 then ascii ": Option not allowed"
    else if eqb code 0x10 then ascii ": no such block"
    else if eqb code 0x11 then ascii ": already locked"
    else if eqb code 0x12 then denied_words writes
    else ascii ""

unfoldable pub error_text : Bool → ℕ → List ℕ
error_text writes code = word_byte (ascii "error ") code ++ error_words writes code

-- ---- blocks

-- bytes as text behind a lead, where every byte shows; else nothing
unfoldable pub shown_text : List ℕ → List ℕ → List ℕ
shown_text lead s = if printable s then lead ++ quoted_text s else ascii ""

unfoldable pub lock_text : ℕ → List ℕ
lock_text lock = if eqb lock 0 then ascii "not locked" else ascii "locked"

unfoldable pub lock_block_text : ℕ → List ℕ → List ℕ
lock_block_text lock s = lock_text lock ++ shown_text (ascii ", ") s

-- a chip's block
unfoldable pub word_text : ℕ → List ℕ
word_text w = decimal_text w ++ shown_text (ascii ", ") (bytes_of 4 w)

-- ---- several blocks of the frame f, from a place on

-- so many blocks of so many bytes
unfoldable pub blocks_text : ℕ → ℕ → List ℕ
blocks_text count long = decimal_text count ++ word_number (ascii " blocks of ") long

-- the bytes of block i; before each block stand `gap` bytes more
abbrev pub piece_at : ℕ → ℕ → ℕ → List ℕ → ℕ → List ℕ
piece_at place gap long f i = part (place + i * (gap + long) + gap) long f

unfoldable pub pieces_of : ℕ → ℕ → ℕ → ℕ → List ℕ → List ℕ
pieces_of place gap long count f = gather count (piece_at place gap long f)

unfoldable pub pieces_text : ℕ → ℕ → ℕ → ℕ → List ℕ → List ℕ
pieces_text place gap long count f = shown_text (ascii ", ") (pieces_of place gap long count f)

-- the lock byte of block i; behind each stand `long` bytes more
abbrev pub lock_at : ℕ → ℕ → List ℕ → ℕ → ℕ
lock_at place long f i = get_or f (place + i * (1 + long)) 0

unfoldable pub unlocked : ℕ → ℕ → ℕ → List ℕ → Bool
unlocked place long count f = all_of count (λ i. eqb (lock_at place long f i) 0)

-- the number of a block that is locked, or nothing
unfoldable pub locked_one : ℕ → ℕ → List ℕ
locked_one lock number = if eqb lock 0 then [] else word_number (ascii " ") number

-- block i has number first + i
unfoldable pub locked_numbers : ℕ → ℕ → ℕ → ℕ → List ℕ → List ℕ
locked_numbers first place long count f = gather count (λ i. locked_one (lock_at place long f i) (first + i))

unfoldable pub locked_text : ℕ → ℕ → ℕ → ℕ → List ℕ → List ℕ
locked_text first place long count f =
    if unlocked place long count f then ascii ", none locked"
    else ascii ", locked" ++ locked_numbers first place long count f

-- blocks alone, blocks with a lock byte before each, lock bytes alone
unfoldable pub plain_blocks_text : ℕ → ℕ → ℕ → List ℕ → List ℕ
plain_blocks_text place long count f = blocks_text count long ++ pieces_text place 0 long count f

unfoldable pub locked_blocks_text : ℕ → ℕ → ℕ → ℕ → List ℕ → List ℕ
locked_blocks_text first place long count f = blocks_text count long ++ (locked_text first place long count f ++ pieces_text place 1 long count f)

unfoldable pub locks_text : ℕ → ℕ → ℕ → List ℕ → List ℕ
locks_text first place count f = decimal_text count ++ (ascii " blocks" ++ locked_text first place 0 count f)

-- ---- who a label is

unfoldable pub found_text : List ℕ → ℕ → List ℕ
found_text uid dsfid = uid_text uid ++ word_byte (ascii ", DSFID ") dsfid

-- both are told less 1
unfoldable pub sizes_text : ℕ → ℕ → List ℕ
sizes_text blocks size = word_number (ascii ", ") (blocks + 1) ++ word_number (ascii " blocks of ") (size + 1)

unfoldable pub info_text : List ℕ → ℕ → ℕ → ℕ → ℕ → ℕ → List ℕ
info_text uid dsfid afi blocks size ic =
    found_text uid dsfid ++ (word_byte (ascii ", AFI ") afi ++ (sizes_text blocks size ++ word_byte (ascii ", IC ") ic))

-- ---- any meaning; f is the frame that was read, and first the block that was asked for first

unfoldable pub meant_text : Bool → ℕ → Meaning → List ℕ → List ℕ → List ℕ
meant_text writes first (m.Refused n) uid f = ascii "not an answer to this"
meant_text writes first (m.Error code) uid f = error_text writes code
meant_text writes first m.Done uid f = ascii "done"
meant_text writes first (m.Found dsfid) uid f = found_text uid dsfid
meant_text writes first (m.Block place long) uid f = shown_text (ascii "") (part place long f)
meant_text writes first (m.LockAndBlock lock place long) uid f = lock_block_text lock (part place long f)
meant_text writes first (m.Info dsfid afi blocks size ic) uid f = info_text uid dsfid afi blocks size ic
meant_text writes first (m.Id id) uid f = word_byte (ascii "Chip_ID ") id
meant_text writes first (m.Word word) uid f = word_text word
meant_text writes first m.Uid uid f = uid_text uid
meant_text writes first (m.Blocks place long count) uid f = plain_blocks_text place long count f
meant_text writes first (m.LocksAndBlocks place long count) uid f = locked_blocks_text first place long count f
meant_text writes first (m.Locks place count) uid f = locks_text first place count f

unfoldable pub meaning_text : Command → Reading → List ℕ → List ℕ
meaning_text command reading f = meant_text (writes_block command) (first_of command) reading.meaning reading.uid f

-- the frame f as an answer to event `number`
unfoldable pub answer_text : ℕ → Signal → List ℕ → List ℕ
answer_text number signal f = meaning_text (command_of number signal) (reading_for number signal f) f
