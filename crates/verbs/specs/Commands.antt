-- A command from its word and what stands behind it: FORMAT, "Commands". Assumes nothing.
use Rattle.std.specs.Prelude.{ℕ, ◌-◌, Bool, true, false, List, length, replicate, nat_le, if◌then◌else◌, Option, Some, None, Result, Ok, Err, option_and_then}
use Rattle.print.specs.Ascii.{ascii}
use Rattle.request.specs.declared.table.Task.{Task}
use Rattle.request.specs.declared.table.Task.TheVariants as task
use Rattle.request.specs.Label.{both}
use Rattle.request.specs.declared.label.Target.TheVariants.{Everyone}
use Rattle.request.specs.declared.label.Family.{Family}
use Rattle.request.specs.declared.label.Family.TheVariants.{Any, Only}
use Rattle.reader.specs.declared.command.ChipTask.{ChipTask}
use Rattle.reader.specs.declared.command.ChipTask.TheVariants as p
use Rattle.reader.specs.declared.command.Command.{Command}
use Rattle.reader.specs.declared.command.Command.TheVariants as c
use Rattle.verbs.specs.declared.trouble.What.{What}
use Rattle.verbs.specs.declared.trouble.What.TheVariants as w
use Rattle.verbs.specs.declared.trouble.Trouble.{Trouble}
use Rattle.verbs.specs.declared.verb.Tail.{Tail}
use Rattle.verbs.specs.declared.verb.Tail.TheVariants as tail
use Rattle.verbs.specs.declared.verb.Counted.{Counted}
use Rattle.verbs.specs.declared.verb.Counted.TheVariants as counted
use Rattle.verbs.specs.declared.verb.Verb.{Verb}
use Rattle.verbs.specs.declared.verb.Verb.TheVariants as verb
use Rattle.verbs.specs.declared.commands.Asked.{Asked}
use Rattle.verbs.specs.declared.pieces.Found.{Found}
use Rattle.verbs.specs.declared.pieces.Aim.{Aim}
use Rattle.verbs.specs.declared.pieces.Mask.{Mask}
use Rattle.verbs.specs.Tokens.{is_empty, word_from, text_of}
use Rattle.verbs.specs.Trouble.{on_ok, no}
use Rattle.verbs.specs.Verb.{verb_of}
use Rattle.verbs.specs.Pieces.{wanted, ended, next_is, byte_from, number_from, target_from, mask_from}

-- ---- what is asked, and how a line ends

abbrev pub none : List ℕ
none = replicate 8 0

abbrev pub Answer : Type 0
Answer = Result Asked Trouble

abbrev pub asked : Command → List ℕ → ℕ → Asked
asked c uid at = record { command = c; uid = uid; at = at }

-- a task for a target, with Option or without
unfoldable pub asks : Aim → Bool → Task → ℕ → ℕ → Command
asks aim option task first second = c.Label aim.to option task (both first second)

-- nothing may stand behind a command ..
unfoldable pub closed : List ℕ → ℕ → What → Command → List ℕ → Answer
closed line at what c uid = on_ok (ended line at what) (λ _. Ok (asked c uid (length line)))

-- .. or bytes must, which it sends
unfoldable pub opened : List ℕ → ℕ → Command → List ℕ → Answer
opened line at c uid = let next = word_from line at in if is_empty next then Err (no next.from w.Data) else Ok (asked c uid next.from)

-- ---- labels

-- a task and its target
unfoldable pub label_asked : List ℕ → ℕ → What → Task → Answer
label_asked line at what task =
    let t = target_from line at in
    on_ok (wanted t what) (λ aim. closed line t.word.to w.End (asks aim false task 0 0) aim.uid)

-- `lock` asks for Option; else `what` should stand there
unfoldable pub lock_asked : List ℕ → ℕ → What → Task → Aim → ℕ → ℕ → Answer
lock_asked line at what task aim first second =
    if next_is line at (ascii "lock") then closed line (word_from line at).to w.End (asks aim true task first second) aim.uid
    else closed line at what (asks aim false task first second) aim.uid

-- a last block, no lower than the first: how many there are behind that
abbrev pub behind_first : ℕ → ℕ → Option ℕ
behind_first first n = if nat_le first n then Some (n - first) else None

unfoldable pub last_from : List ℕ → ℕ → ℕ → Found ℕ
last_from line at first = let n = number_from line at in record { value = option_and_then (behind_first first) n.value; word = n.word }

unfoldable pub read_to : List ℕ → ℕ → Aim → ℕ → Answer
read_to line at aim first =
    let n = last_from line at first in
    on_ok (wanted n w.Last) (λ more. lock_asked line n.word.to w.LockOrEnd task.ReadMany aim first more)

-- a block is read, or with `to` several
unfoldable pub read_asked : List ℕ → ℕ → Aim → ℕ → Answer
read_asked line at aim first =
    if next_is line at (ascii "to") then read_to line (word_from line at).to aim first
    else lock_asked line at w.ToLockOrEnd task.Read aim first 0

unfoldable pub status_to : List ℕ → ℕ → Aim → ℕ → Answer
status_to line at aim first =
    let n = last_from line at first in
    on_ok (wanted n w.Last) (λ more. closed line n.word.to w.End (asks aim false task.Status first more) aim.uid)

-- the lock of a block, or with `to` of several
unfoldable pub status_asked : List ℕ → ℕ → Aim → ℕ → Answer
status_asked line at aim first =
    if next_is line at (ascii "to") then status_to line (word_from line at).to aim first
    else closed line at w.ToOrEnd (asks aim false task.Status first 0) aim.uid

-- what may follow a block's number n
unfoldable pub tail_asked : Tail → List ℕ → ℕ → Task → Aim → ℕ → Answer
tail_asked tail.Nothing line at task aim n = closed line at w.End (asks aim false task n 0) aim.uid
tail_asked tail.Read line at task aim n = read_asked line at aim n
tail_asked tail.Status line at task aim n = status_asked line at aim n
tail_asked tail.Data line at task aim n = opened line at (asks aim false task n 0) aim.uid

-- a task, its target and a block's number
unfoldable pub block_of : List ℕ → ℕ → Task → Tail → Aim → Answer
block_of line at task behind aim =
    let n = number_from line at in
    on_ok (wanted n w.Number) (tail_asked behind line n.word.to task aim)

unfoldable pub block_asked : List ℕ → ℕ → Task → Tail → Answer
block_asked line at task behind =
    let t = target_from line at in
    on_ok (wanted t w.Target) (block_of line t.word.to task behind)

-- a field of a label, its target, and a byte to be written or `lock`
abbrev pub field_by : Found ℕ → List ℕ → ℕ → Task → Task → Aim → Option ℕ → Answer
field_by b line at write _ aim (Some byte) = closed line b.word.to w.End (asks aim false write byte 0) aim.uid
field_by b line at _ lock aim None =
    if next_is line at (ascii "lock") then closed line b.word.to w.End (asks aim false lock 0 0) aim.uid
    else Err (no b.word.from w.ByteOrLock)

unfoldable pub field_of : List ℕ → ℕ → Task → Task → Aim → Answer
field_of line at write lock aim = let b = byte_from line at in field_by b line at write lock aim b.value

unfoldable pub field_asked : List ℕ → ℕ → Task → Task → Answer
field_asked line at write lock =
    let t = target_from line at in
    on_ok (wanted t w.Target) (field_of line t.word.to write lock)

-- ---- chips

unfoldable pub chip_asked : List ℕ → ℕ → ChipTask → Answer
chip_asked line at task = closed line at w.End (c.Chip Everyone false task) none

-- one byte is a chip's, anything else a label's target
abbrev pub select_by : Found ℕ → List ℕ → ℕ → Option ℕ → Answer
select_by b line at (Some id) = chip_asked line b.word.to (p.Select id)
select_by b line at None = label_asked line at w.Selected task.Select

unfoldable pub select_asked : List ℕ → ℕ → Answer
select_asked line at = let b = byte_from line at in select_by b line at b.value

unfoldable pub counted_by : Counted → List ℕ → ℕ → ℕ → Answer
counted_by counted.Slot line at n = chip_asked line at (p.Marker n)
counted_by counted.Get line at n = chip_asked line at (p.Read n)
counted_by counted.Put line at n = opened line at (c.Chip Everyone false (p.Write n)) none

unfoldable pub counted_asked : List ℕ → ℕ → Counted → Answer
counted_asked line at kind =
    let n = number_from line at in
    on_ok (wanted n w.Number) (counted_by kind line n.word.to)

-- ---- an Inventory: 16, afi HH, mask BITS/HEX, in this order, each where it is given

unfoldable pub inventory_end : List ℕ → ℕ → What → Family → Bool → Mask → Answer
inventory_end line at what family sixteen mask = closed line at what (c.Inventory Everyone false family sixteen mask.bits mask.number) none

unfoldable pub mask_of : List ℕ → ℕ → Family → Bool → Answer
mask_of line at family sixteen =
    let m = mask_from line at in
    on_ok (wanted m w.Mask) (inventory_end line m.word.to w.End family sixteen)

unfoldable pub mask_asked : List ℕ → ℕ → Family → Bool → Answer
mask_asked line at family sixteen =
    if next_is line at (ascii "mask") then mask_of line (word_from line at).to family sixteen
    else inventory_end line at w.Options family sixteen (record { bits = 0; number = 0 })

unfoldable pub family_of : List ℕ → ℕ → Bool → Answer
family_of line at sixteen =
    let b = byte_from line at in
    on_ok (wanted b w.Byte) (λ family. mask_asked line b.word.to (Only family) sixteen)

unfoldable pub family_asked : List ℕ → ℕ → Bool → Answer
family_asked line at sixteen =
    if next_is line at (ascii "afi") then family_of line (word_from line at).to sixteen else mask_asked line at Any sixteen

unfoldable pub inventory_asked : List ℕ → ℕ → Answer
inventory_asked line at =
    if next_is line at (ascii "16") then family_asked line (word_from line at).to true else family_asked line at false

-- ---- a line

-- its verb stands at place `from` and ends at place `at`
unfoldable pub verb_asked : Verb → List ℕ → ℕ → ℕ → Answer
verb_asked verb.Inventory line from at = inventory_asked line at
verb_asked (verb.Chip task) line from at = chip_asked line at task
verb_asked (verb.Number kind) line from at = counted_asked line at kind
verb_asked verb.Select line from at = select_asked line at
verb_asked (verb.Label task) line from at = label_asked line at w.Target task
verb_asked (verb.Block task behind) line from at = block_asked line at task behind
verb_asked (verb.Field write lock) line from at = field_asked line at write lock
verb_asked verb.Unknown line from at = Err (no from w.Event)

unfoldable pub line_asked : List ℕ → Answer
line_asked line = let first = word_from line 0 in verb_asked (verb_of (text_of line first)) line first.from first.to
