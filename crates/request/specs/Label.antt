-- Document 01, "Labels" and "Events": what an event asks of labels, whatever the label. Assumes nothing.
use Rattle.std.specs.Prelude.{Bool, true, false, not, ◌&&◌, ◌||◌, List, ℕ, ◌+◌, ◌-◌, eqb, ltb, length, get_or, replicate, Option, None, Some, if◌then◌else◌}
use Rattle.frame.specs.Choose.{bit, set?}
use Rattle.frame.specs.Number.{part}
use Rattle.frame.specs.CheckSum.{right}
use Rattle.frame.specs.Ending.{bytes_for, mask_at}
use Rattle.request.specs.Table.{table, lookup, has_answer, option_fits}
use Rattle.request.specs.declared.table.Row.{Row}
use Rattle.request.specs.declared.label.Target.{Target}
use Rattle.request.specs.declared.label.Target.TheVariants.{Everyone, Selected, One}
use Rattle.request.specs.declared.label.Family.{Family}
use Rattle.request.specs.declared.label.Family.TheVariants.{Any, Only}
use Rattle.request.specs.declared.label.Params.{Params}
use Rattle.request.specs.declared.label.Call.{Call}
use Rattle.request.specs.declared.label.Call.TheVariants.{Ignored, Off, On, EndOfFrame, Nobody, Inventory, Fault, Do}
use Rattle.request.specs.declared.label.Request.{Request}

-- flag bit i; bits count from 0
abbrev pub flag : ℕ → List ℕ → ℕ
flag i f = bit i (get_or f 0 0)

-- a call with no UID
abbrev pub bare : Call → Request
bare call = record { uid = replicate 8 0; call = call }

-- a label frame that no label acts on
unfoldable pub nobody : Request
nobody = bare Nobody

-- the longest mask
abbrev pub most : Bool → ℕ
most true = 60
most false = 64

-- mask length at place at, then the mask in as few bytes as hold it; a longer mask or other frame length: silence
unfoldable pub masked : Family → Bool → ℕ → List ℕ → Request
masked family sixteen at f =
    if ltb (most sixteen) (get_or f at 0) then nobody
    else if not (eqb (length f) (at + 3 + bytes_for (get_or f at 0))) then nobody
    else bare (Inventory family sixteen (get_or f at 0) (mask_at f (at + 1) (get_or f at 0)))

-- Inventory set: silence unless command 01 and bit 6 clear. Bit 4: an AFI byte follows. Bit 5: one slot; clear: sixteen
unfoldable pub inventory : List ℕ → Request
inventory f =
    if not (eqb (get_or f 1 0) 1) then nobody
    else if set? (flag 6 f) then nobody
    else if set? (flag 4 f) then masked (Only (get_or f 2 0)) (eqb (flag 5 f) 0) 3 f
    else masked Any (eqb (flag 5 f) 0) 2 f

-- 02 and 25 take one UID only
abbrev pub is_one : Target → Bool
is_one Everyone = false
is_one Selected = false
is_one One = true

abbrev pub target_fits : Row → Target → Bool
target_fits row to = not row.one || is_one to

-- an error, of a task that has an answer
abbrev pub faulty : Target → Row → ℕ → Call
faulty to row code = if has_answer row.success then Fault to code else Nobody

abbrev pub both : ℕ → ℕ → Params
both first second = record { first = first; second = second }

-- by its code's row, ps its parameters: without the UID that it takes, silence; length, error 02; Option where none is allowed, 03.
-- Length and Option of 21 are its label's affair: behind its block number stands the block.
unfoldable pub by_row : Target → Bool → List ℕ → Row → Call
by_row to option ps row =
    if not (target_fits row to) then Nobody
    else if row.block then Do to row.task (both (get_or ps 0 0) 0) option
    else if not (eqb (length ps + 4) row.len) then faulty to row 2
    else if not (option_fits row option) then faulty to row 3
    else Do to row.task (both (get_or ps 0 0) (get_or ps 1 0)) option

-- unknown code, error 01
unfoldable pub checked : Target → Bool → List ℕ → Option Row → Call
checked to option ps None = Fault to 1
checked to option ps (Some row) = by_row to option ps row

-- command 01 here: silence
unfoldable pub call : Target → ℕ → Bool → List ℕ → Call
call to c option ps = if eqb c 1 then Nobody else checked to option ps (lookup c table)

-- a frame's bytes from place at up to its check sum
abbrev pub params : ℕ → List ℕ → List ℕ
params at f = part at (length f - 2 - at) f

-- Address: UID in bytes 2 to 9, under 12 bytes silence
unfoldable pub addressed : List ℕ → Bool → Request
addressed f option =
    if ltb (length f) 12 then nobody
    else record { uid = part 2 8 f; call = call One (get_or f 1 0) option (params 10 f) }

unfoldable pub unaddressed : List ℕ → Target → Bool → Request
unaddressed f to option = bare (call to (get_or f 1 0) option (params 2 f))

-- bit 2 is Inventory; bit 4 Select, bit 5 Address, bit 6 Option; both bits: silence
unfoldable pub addressing : List ℕ → ℕ → Request
addressing f flags =
    if set? (bit 2 flags) then inventory f
    else if set? (bit 5 flags) && set? (bit 4 flags) then nobody
    else if set? (bit 5 flags) then addressed f (set? (bit 6 flags))
    else unaddressed f (if set? (bit 4 flags) then Selected else Everyone) (set? (bit 6 flags))

-- what a label frame asks. Under 4 bytes, CRC wrong, or flag bit 3 or 7 set: silence
unfoldable pub decode : List ℕ → Request
decode f =
    if ltb (length f) 4 then nobody
    else if set? (flag 3 f) || set? (flag 7 f) then nobody
    else if not (right f) then nobody
    else addressing f (get_or f 0 0)

-- 1 field off, 2 field on, 3 label frame, 4 bare end of frame; labels ignore 5
unfoldable pub heard : ℕ → List ℕ → Request
heard number f =
    if eqb number 1 then bare Off
    else if eqb number 2 then bare On
    else if eqb number 3 then decode f
    else if eqb number 4 then bare EndOfFrame
    else bare Ignored

-- the bytes that a frame writes, where it writes a block: behind the block number
unfoldable pub data_of : List ℕ → List ℕ
data_of f = if set? (flag 5 f) then params 11 f else params 3 f
