-- Document 01, "Reader's side", and document 02, P2: what a frame means to the command that was sent. Assumes nothing.
use Rattle.std.specs.Prelude.{Bool, true, false, not, ◌&&◌, ◌||◌, List, ℕ, ◌+◌, ◌-◌, ◌*◌, ◌/◌, ◌%◌, ◌≤◌, eqb, ltb, leb, length, get_or, replicate, if◌then◌else◌}
use Rattle.frame.specs.Choose.{all_of}
use Rattle.frame.specs.Number.{num, part}
use Rattle.frame.specs.CheckSum.{right, content}
use Rattle.frame.specs.Ending.{ends_in}
use Rattle.request.specs.declared.label.Params.{Params}
use Rattle.request.specs.declared.label.Target.{Target}
use Rattle.request.specs.declared.label.Target.TheVariants.{Everyone, Selected, One}
use Rattle.request.specs.Table.{row_of, has_answer}
use Rattle.request.specs.declared.table.Task.{Task}
use Rattle.request.specs.declared.table.Success.{Success}
use Rattle.request.specs.declared.table.Success.TheVariants as s
use Rattle.reader.specs.declared.command.ChipTask.{ChipTask}
use Rattle.reader.specs.declared.command.ChipTask.TheVariants as p
use Rattle.reader.specs.declared.command.Command.{Command}
use Rattle.reader.specs.declared.command.Command.TheVariants.{Inventory, Label, Chip, Other}
use Rattle.reader.specs.Command.{valid}
use Rattle.answer.specs.declared.reading.Meaning.{Meaning}
use Rattle.answer.specs.declared.reading.Meaning.TheVariants as m
use Rattle.answer.specs.declared.reading.Reading.{Reading}

-- document 01's number of each meaning: 7, 8 or 9, or 0 where nothing is refused
abbrev pub number_of : Meaning → ℕ
number_of (m.Refused n) = n
number_of (m.Error code) = 0
number_of m.Done = 0
number_of (m.Found dsfid) = 0
number_of (m.Block place long) = 0
number_of (m.LockAndBlock lock place long) = 0
number_of (m.Info dsfid afi blocks size ic) = 0
number_of (m.Id id) = 0
number_of (m.Word word) = 0
number_of m.Uid = 0
number_of (m.Blocks place long count) = 0
number_of (m.LocksAndBlocks place long count) = 0
number_of (m.Locks place count) = 0

-- a success: neither a refusal nor an error
unfoldable pub success : Meaning → Bool
success (m.Refused n) = false
success (m.Error code) = false
success m.Done = true
success (m.Found dsfid) = true
success (m.Block place long) = true
success (m.LockAndBlock lock place long) = true
success (m.Info dsfid afi blocks size ic) = true
success (m.Id id) = true
success (m.Word word) = true
success m.Uid = true
success (m.Blocks place long count) = true
success (m.LocksAndBlocks place long count) = true
success (m.Locks place count) = true

-- every other number in a refusal is 0; a meaning with no UID has zeros beside it
abbrev pub said : Meaning → Reading
said x = record { meaning = x; uid = replicate 8 0 }

abbrev pub said_of : Meaning → List ℕ → Reading
said_of x uid = record { meaning = x; uid = uid }

-- where the test holds, a reading; else the shape is not one that the command allows
abbrev pub fits : Bool → Reading → Reading
fits true r = r
fits false r = said (m.Refused 9)

-- ---- labels; c is the frame's content, without its check sum

-- codes 01, 02, 03, 10, 11, 12
unfoldable pub error_code : ℕ → Bool
error_code code = (leb 1 code && leb code 3) || (leb 0x10 code && leb code 0x12)

-- an error frame is 01, code
unfoldable pub is_error : List ℕ → Bool
is_error c = eqb (length c) 2 && (eqb (get_or c 0 0) 1 && error_code (get_or c 1 0))

unfoldable pub done_of : List ℕ → Reading
done_of c = fits (eqb (length c) 1 && eqb (get_or c 0 0) 0) (said m.Done)

-- 00, lock byte if Option, a block of 1 to 32 bytes; places count in the frame
unfoldable pub block_of : Bool → List ℕ → Reading
block_of true c =
    fits (leb 3 (length c) && (leb (length c) 34 && (eqb (get_or c 0 0) 0 && leb (get_or c 1 0) 1)))
    (said (m.LockAndBlock (get_or c 1 0) 2 (length c - 2)))
block_of false c = fits (leb 2 (length c) && (leb (length c) 33 && eqb (get_or c 0 0) 0)) (said (m.Block 1 (length c - 1)))

-- the UID of an addressed 2B is the target's
abbrev pub owned : Target → List ℕ → List ℕ → Bool
owned Everyone uid u = true
owned Selected uid u = true
owned One uid u = eqb (num u) (num uid)

-- 00, 0F, UID, DSFID, AFI, blocks less 1, length less 1 (at most 31), IC reference
unfoldable pub info_of : Target → List ℕ → List ℕ → Reading
info_of to uid c =
    fits (eqb (length c) 15 && (eqb (get_or c 0 0) 0 && (eqb (get_or c 1 0) 0x0F && (leb (get_or c 13 0) 31 && owned to uid (part 2 8 c)))))
    (said_of (m.Info (get_or c 10 0) (get_or c 11 0) (get_or c 12 0) (get_or c 13 0) (get_or c 14 0)) (part 2 8 c))

-- document 02, P2: how many bytes each of count pieces of one length has, one behind the other behind 00; 0 where c is no such pieces
unfoldable pub piece_of : ℕ → List ℕ → ℕ
piece_of count c =
    let each = (length c - 1) / count in
    if eqb (get_or c 0 0) 0 && eqb (length c) (1 + count * each) then each else 0

-- count blocks of 1 to 32 bytes, each with its lock byte before it if Option
unfoldable pub blocks_of : Bool → ℕ → List ℕ → Reading
blocks_of true count c =
    let each = piece_of count c in
    fits (leb 2 each && (leb each 33 && all_of count (λ i. leb (get_or c (1 + i * each) 0) 1))) (said (m.LocksAndBlocks 1 (each - 1) count))
blocks_of false count c = let each = piece_of count c in fits (leb 1 each && leb each 32) (said (m.Blocks 1 each count))

-- count lock bytes
unfoldable pub locks_of : ℕ → List ℕ → Reading
locks_of count c = fits (eqb (piece_of count c) 1 && all_of count (λ i. leb (get_or c (1 + i) 0) 1)) (said (m.Locks 1 count))

-- what a success of a task is; more is the count less 1 that was asked
unfoldable pub success_of : Target → Bool → Success → ℕ → List ℕ → List ℕ → Reading
success_of to option s.Never more uid c = said (m.Refused 9)
success_of to option s.Done more uid c = done_of c
success_of to option s.Block more uid c = block_of option c
success_of to option s.Info more uid c = info_of to uid c
success_of to option s.Blocks more uid c = blocks_of option (more + 1) c
success_of to option s.Locks more uid c = locks_of (more + 1) c

-- an error frame fits any label command that has an answer, save Inventory
unfoldable pub label_reading : Target → Bool → Task → Params → List ℕ → List ℕ → Reading
label_reading to option task p uid c =
    if has_answer (row_of task).success && is_error c then said (m.Error (get_or c 1 0))
    else success_of to option (row_of task).success p.second uid c

-- 00, DSFID, UID, which ends in the mask sent
unfoldable pub found_of : ℕ → ℕ → List ℕ → Reading
found_of bits mask c = fits (eqb (length c) 10 && (eqb (get_or c 0 0) 0 && ends_in (part 2 8 c) mask bits)) (said_of (m.Found (get_or c 1 0)) (part 2 8 c))

-- ---- chips

unfoldable pub chip_reading : ChipTask → List ℕ → Reading
chip_reading p.Initiate c = fits (eqb (length c) 1) (said (m.Id (get_or c 0 0)))
chip_reading p.Pcall c = fits (eqb (length c) 1 && eqb (get_or c 0 0 % 16) 0) (said (m.Id (get_or c 0 0)))
chip_reading (p.Marker n) c = fits (eqb (length c) 1 && eqb (get_or c 0 0 % 16) n) (said (m.Id (get_or c 0 0)))
chip_reading (p.Select id) c = fits (eqb (length c) 1 && eqb (get_or c 0 0) id) (said (m.Id (get_or c 0 0)))
chip_reading p.Completion c = said (m.Refused 9)
chip_reading p.Reset c = said (m.Refused 9)
chip_reading (p.Read a) c = fits (eqb (length c) 4) (said (m.Word (num c)))
chip_reading p.Uid c = fits (eqb (length c) 8) (said_of m.Uid c)
chip_reading (p.Write a) c = said (m.Refused 9)

unfoldable pub shape_of : Command → List ℕ → List ℕ → Reading
shape_of (Inventory to option family sixteen bits mask) uid c = found_of bits mask c
shape_of (Label to option task p) uid c = label_reading to option task p uid c
shape_of (Chip to option task) uid c = chip_reading task c
shape_of (Other kind code) uid c = said (m.Refused 9)

-- the commands that an error frame fits: those for labels that have an answer, save Inventory
unfoldable pub may_err : Command → Bool
may_err (Inventory to option family sixteen bits mask) = false
may_err (Label to option task p) = has_answer (row_of task).success
may_err (Chip to option task) = false
may_err (Other kind code) = false

-- 7: no request has these fields; 8: fewer than 3 bytes, or CRC wrong; 9: CRC right, shape not one that the sent command allows
unfoldable pub reading_of : Command → List ℕ → ℕ → List ℕ → Reading
reading_of command uid n f =
    if not (valid command n) then said (m.Refused 7)
    else if ltb (length f) 3 then said (m.Refused 8)
    else if not (right f) then said (m.Refused 8)
    else shape_of command uid (content f)

-- the bytes whose place is told lie in a frame of k bytes
unfoldable pub Inside : Meaning → ℕ → Type 0
Inside (m.Refused n) k = Unit
Inside (m.Error code) k = Unit
Inside m.Done k = Unit
Inside (m.Found dsfid) k = Unit
Inside (m.Block place long) k = place + long ≤ k
Inside (m.LockAndBlock lock place long) k = place + long ≤ k
Inside (m.Info dsfid afi blocks size ic) k = Unit
Inside (m.Id id) k = Unit
Inside (m.Word word) k = Unit
Inside m.Uid k = Unit
Inside (m.Blocks place long count) k = place + count * long ≤ k
Inside (m.LocksAndBlocks place long count) k = place + count * (1 + long) ≤ k
Inside (m.Locks place count) k = place + count ≤ k
