-- What the numbers of the C face mean: which command they name. A command of other numbers is `Other`, which no request has.
-- Assumes nothing.
use Rattle.std.specs.Prelude.{Bool, true, false, List, ℕ, eqb, ltb, length, replicate, if◌then◌else◌, Option, Some, None}
use Rattle.request.specs.declared.label.Family.{Family}
use Rattle.request.specs.declared.label.Family.TheVariants.{Any, Only}
use Rattle.request.specs.declared.label.Target.{Target}
use Rattle.request.specs.declared.label.Target.TheVariants.{Everyone, Selected, One}
use Rattle.request.specs.Label.{both}
use Rattle.request.specs.declared.label.Params.{Params}
use Rattle.request.specs.Table.{table, lookup}
use Rattle.request.specs.declared.table.Row.{Row}
use Rattle.reader.specs.declared.command.ChipTask.{ChipTask}
use Rattle.reader.specs.declared.command.ChipTask.TheVariants as p
use Rattle.reader.specs.declared.command.Command.{Command}
use Rattle.reader.specs.declared.command.Command.TheVariants.{Inventory, Label, Chip, Other}
use Rattle.face.specs.declared.fields.Fields.{Fields}

-- a family is a flag and a byte
abbrev pub family_of : Bool → ℕ → Family
family_of true afi = Only afi
family_of false afi = Any

-- 0 everyone, 1 the selected tag, 2 one UID
unfoldable pub target_of : ℕ → Target
target_of n = if eqb n 0 then Everyone else if eqb n 1 then Selected else One

-- a label's command by its code's row, Inventory beside
unfoldable pub task_command : Option Row → Target → Bool → Params → Command
task_command (Some row) to option p = Label to option row.task p
task_command None to option p = Other 1 0

-- a chip's command by its code: both bytes of those that begin with 06, the slot marker's alone is 06
unfoldable pub chip_command : ℕ → Target → Bool → ℕ → Command
chip_command code to option byte =
    if eqb code 0x0600 then Chip to option p.Initiate
    else if eqb code 0x0604 then Chip to option p.Pcall
    else if eqb code 0x06 then Chip to option (p.Marker byte)
    else if eqb code 0x08 then Chip to option (p.Read byte)
    else if eqb code 0x09 then Chip to option (p.Write byte)
    else if eqb code 0x0B then Chip to option p.Uid
    else if eqb code 0x0C then Chip to option p.Reset
    else if eqb code 0x0E then Chip to option (p.Select byte)
    else if eqb code 0x0F then Chip to option p.Completion
    else Other 2 0

-- 01 is Inventory
unfoldable pub label_command : Fields → Target → Command
label_command f to =
    if eqb f.code 0x01 then Inventory to f.option (family_of f.given f.afi) f.sixteen f.bits f.mask
    else task_command (lookup f.code table) to f.option (both f.byte f.more)

-- kind 1 is labels, 2 is chips; a target over 2 names no command
unfoldable pub command_of : Fields → Command
command_of f =
    if ltb 2 f.target then Other f.kind 0
    else if eqb f.kind 1 then label_command f (target_of f.target)
    else if eqb f.kind 2 then chip_command f.code (target_of f.target) f.option f.byte
    else Other f.kind 0

-- a UID is eight bytes; any other number of them is none, and stands as zeros
unfoldable pub uid_of : List ℕ → List ℕ
uid_of bytes = if eqb (length bytes) 8 then bytes else replicate 8 0

-- with n bytes of a UID: to one UID nothing is sent without eight, and no other command looks at them
unfoldable pub command_for : Fields → ℕ → Command
command_for f n = if eqb f.target 2 then (if eqb n 8 then command_of f else Other f.kind 0) else command_of f

-- numbers that name no command name one that no request has
abbrev pub or_command : Option Command → Command → Command
or_command (Some c) other = c
or_command None other = other

abbrev pub or_chip : Option ChipTask → Target → Bool → Command
or_chip (Some task) to option = Chip to option task
or_chip None to option = Other 2 0
