-- Document 01, "Reader's side", and document 02, P2: the bytes of a request, and what the writer leaves. Assumes nothing.
use Rattle.std.specs.Prelude.{◌≡◌, Bool, List, [], ◌∷◌, ◌++◌, ℕ, ◌+◌, ◌-◌, ◌*◌, eqb, ltb, length, get_or, take, drop, replicate, if◌then◌else◌, Result, Ok, Err}
use Rattle.frame.specs.Number.{num, bytes_of}
use Rattle.frame.specs.CheckSum.{framed}
use Rattle.frame.specs.Ending.{bytes_for}
use Rattle.request.specs.declared.label.Target.{Target}
use Rattle.request.specs.declared.label.Target.TheVariants.{Everyone, Selected, One}
use Rattle.request.specs.declared.label.Family.{Family}
use Rattle.request.specs.declared.label.Family.TheVariants.{Any, Only}
use Rattle.request.specs.Table.{row_of}
use Rattle.request.specs.declared.table.Task.{Task}
use Rattle.request.specs.declared.table.Row.{Row}
use Rattle.request.specs.declared.label.Call.TheVariants as k
use Rattle.request.specs.Label.{bare, both}
use Rattle.request.specs.declared.label.Params.{Params}
use Rattle.request.specs.declared.label.Request as asked
use Rattle.request.specs.declared.chip.Order.{Order}
use Rattle.request.specs.declared.chip.Order.TheVariants as o
use Rattle.reader.specs.declared.command.ChipTask.{ChipTask}
use Rattle.reader.specs.declared.command.ChipTask.TheVariants as p
use Rattle.reader.specs.declared.command.Command.{Command}
use Rattle.reader.specs.declared.command.Command.TheVariants.{Inventory, Label, Chip, Other}
use Rattle.reader.specs.declared.writer.Written.{Written}
use Rattle.frame.specs.Refusal.{refusal_number}
use Rattle.frame.specs.declared.refusal.Refusal.{Refusal}
use Rattle.reader.specs.Command.{valid}

-- ---- the bytes. Flag bit 0 clear, bit 1 set

-- bit 4 Select, bit 5 Address
abbrev pub mode : Target → ℕ
mode Everyone = 0
mode Selected = 16
mode One = 32

abbrev pub uid_part : Target → List ℕ → List ℕ
uid_part Everyone uid = []
uid_part Selected uid = []
uid_part One uid = uid

-- the parameters that a task has beside its flags and code; then a block's data
abbrev pub parameters : Row → Params → List ℕ
parameters row p = take (row.len - 4) (p.first ∷ p.second ∷ [])

abbrev pub params : Row → Params → List ℕ → List ℕ
params row p d = parameters row p ++ (if row.block then d else [])

abbrev pub chip_bytes : ChipTask → List ℕ → List ℕ
chip_bytes p.Initiate d = 0x06 ∷ 0x00 ∷ []
chip_bytes p.Pcall d = 0x06 ∷ 0x04 ∷ []
chip_bytes (p.Marker s) d = (s * 16 + 6) ∷ []
chip_bytes (p.Select id) d = 0x0E ∷ id ∷ []
chip_bytes p.Completion d = 0x0F ∷ []
chip_bytes p.Reset d = 0x0C ∷ []
chip_bytes (p.Read a) d = 0x08 ∷ a ∷ []
chip_bytes p.Uid d = 0x0B ∷ []
chip_bytes (p.Write a) d = 0x09 ∷ a ∷ d

-- bit 2 Inventory, bit 4 an AFI follows, bit 5 one slot
abbrev pub inventory_bytes : Family → Bool → ℕ → ℕ → List ℕ
inventory_bytes Any sixteen bits mask = (6 + (if sixteen then 0 else 32)) ∷ 1 ∷ bits ∷ bytes_of (bytes_for bits) mask
inventory_bytes (Only afi) sixteen bits mask = (22 + (if sixteen then 0 else 32)) ∷ 1 ∷ afi ∷ bits ∷ bytes_of (bytes_for bits) mask

-- bit 6 Option
abbrev pub flags : Target → Bool → ℕ
flags to option = 2 + mode to + (if option then 64 else 0)

unfoldable pub content : Command → List ℕ → List ℕ → List ℕ
content (Inventory to option family sixteen bits mask) uid d = inventory_bytes family sixteen bits mask
content (Label to option task p) uid d = flags to option ∷ (row_of task).code ∷ (uid_part to uid ++ params (row_of task) p d)
content (Chip to option task) uid d = chip_bytes task d
content (Other kind code) uid d = []

unfoldable pub encode : Command → List ℕ → List ℕ → List ℕ
encode c uid d = framed (content c uid d)

-- ---- the call

-- the room that every output buffer has
abbrev pub least : ℕ
least = 64

-- 3: output buffer under 64 bytes; 7: no request has these fields
unfoldable pub refusal_of : Command → ℕ → ℕ → ℕ
refusal_of c n room = if ltb room least then 3 else if valid c n then 0 else 7

unfoldable pub written_of : Command → List ℕ → List ℕ → List ℕ → Written
written_of c uid d out =
    if eqb (refusal_of c (length d) (length out)) 0 then record { number = 0; length = length (encode c uid d) }
    else record { number = refusal_of c (length d) (length out); length = 0 }

-- how C is told: 0 and the request's length, or the refusal's number
abbrev pub written_as : Result ℕ Refusal → Written
written_as (Ok n) = record { number = 0; length = n }
written_as (Err why) = record { number = refusal_number why; length = 0 }

-- a frame at the front of a buffer: bytes behind it stay
abbrev pub at_front : List ℕ → List ℕ → List ℕ
at_front f out = f ++ drop (length f) out

unfoldable pub out_of : Command → List ℕ → List ℕ → List ℕ → List ℕ
out_of c uid d out =
    if eqb (refusal_of c (length d) (length out)) 0 then at_front (encode c uid d) out
    else out

-- what every call keeps to: r comes back, and out is left as now
pub record Wrote (c : Command) (uid d out : List ℕ) (r : Written) (now : List ℕ) : Type 0 where
  pub report : r ≡ written_of c uid d out
  pub left : now ≡ out_of c uid d out

-- ---- what it means to the tags

abbrev pub uid_meant : Target → List ℕ → List ℕ
uid_meant Everyone uid = replicate 8 0
uid_meant Selected uid = replicate 8 0
uid_meant One uid = uid

-- a parameter that a task has not is taken as 0
unfoldable pub taken : Row → Params → Params
taken row p = both (get_or (parameters row p) 0 0) (get_or (parameters row p) 1 0)

unfoldable pub label_meant : Target → Bool → Task → Params → List ℕ → asked.Request
label_meant to option task p uid = record { uid = uid_meant to uid; call = k.Do to task (taken (row_of task) p) option }

unfoldable pub chip_meant : ChipTask → List ℕ → Order
chip_meant p.Initiate d = o.Initiate
chip_meant p.Pcall d = o.Pcall
chip_meant (p.Marker s) d = o.Marker s
chip_meant (p.Select id) d = o.Select id
chip_meant p.Completion d = o.Completion
chip_meant p.Reset d = o.Reset
chip_meant (p.Read a) d = o.Read a
chip_meant p.Uid d = o.Uid
chip_meant (p.Write a) d = o.Write a (num d)

-- the event that a command's frame is: 3 for labels, 5 for chips
unfoldable pub event_for : Command → ℕ
event_for (Inventory to option family sixteen bits mask) = 3
event_for (Label to option task p) = 3
event_for (Chip to option task) = 5
event_for (Other kind code) = 0

-- what that event asks of labels ..
unfoldable pub label_takes : Command → List ℕ → asked.Request
label_takes (Inventory to option family sixteen bits mask) uid = bare (k.Inventory family sixteen bits mask)
label_takes (Label to option task p) uid = label_meant to option task p uid
label_takes (Chip to option task) uid = bare k.Ignored
label_takes (Other kind code) uid = bare k.Ignored

-- .. and of chips
unfoldable pub chip_takes : Command → List ℕ → Order
chip_takes (Inventory to option family sixteen bits mask) d = o.Ignored
chip_takes (Label to option task p) d = o.Ignored
chip_takes (Chip to option task) d = chip_meant task d
chip_takes (Other kind code) d = o.Ignored

-- the bytes that it sends to be written in a label's block
unfoldable pub bytes_sent : Command → List ℕ → List ℕ
bytes_sent (Inventory to option family sixteen bits mask) d = []
bytes_sent (Label to option task p) d = if (row_of task).block then d else []
bytes_sent (Chip to option task) d = []
bytes_sent (Other kind code) d = []
