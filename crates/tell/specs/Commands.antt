-- The command that an event asks, so that its answer can be read. Assumes nothing.
use Rattle.std.specs.Prelude.{true, false, ◌&&◌, List, ℕ, ◌+◌, eqb, leb, if◌then◌else◌}
use Rattle.request.specs.Table.{row_of}
use Rattle.request.specs.Label.{both}
use Rattle.request.specs.declared.label.Params.{Params}
use Rattle.request.specs.declared.table.Task.TheVariants as t
use Rattle.request.specs.declared.label.Target.TheVariants.{Everyone}
use Rattle.request.specs.declared.label.Family.TheVariants.{Any}
use Rattle.request.specs.declared.label.Call.{Call}
use Rattle.request.specs.declared.label.Call.TheVariants as k
use Rattle.request.specs.declared.chip.Order.{Order}
use Rattle.request.specs.declared.chip.Order.TheVariants as o
use Rattle.request.specs.declared.signal.Signal.{Signal}
use Rattle.reader.specs.declared.command.ChipTask.{ChipTask}
use Rattle.reader.specs.declared.command.ChipTask.TheVariants as p
use Rattle.reader.specs.declared.command.Command.{Command}
use Rattle.reader.specs.declared.command.Command.TheVariants.{Inventory, Label, Chip, Other}
use Rattle.answer.specs.declared.reading.Reading.{Reading}
use Rattle.answer.specs.Answer.{reading_of}

-- what asks nothing that has an answer
abbrev nothing : Command
nothing = Other 0 0

-- blocks over 255 are answered by an error, which fits however many are asked for
unfoldable pub within : Params → Params
within p = if leb (p.first + p.second) 255 then p else both p.first 0

-- an end of frame asks the next slot of an Inventory, whose mask it does not say; a fault's answer is an error, which fits every label command
-- with an answer; Option on a task that may not have it is an error too
unfoldable pub label_command : Call → Command
label_command k.Ignored = nothing
label_command k.Off = nothing
label_command k.On = nothing
label_command k.EndOfFrame = Inventory Everyone false Any true 0 0
label_command k.Nobody = nothing
label_command (k.Inventory family sixteen bits mask) = Inventory Everyone false family sixteen bits mask
label_command (k.Fault to code) = Label to false t.Ready (both 0 0)
label_command (k.Do to task p option) = Label to (option && (row_of task).option) task (within p)

abbrev chip : ChipTask → Command
chip task = Chip Everyone false task

unfoldable pub chip_command : Order → Command
chip_command o.Ignored = nothing
chip_command o.Off = nothing
chip_command o.On = nothing
chip_command o.Initiate = chip p.Initiate
chip_command o.Pcall = chip p.Pcall
chip_command (o.Marker slot) = chip (p.Marker slot)
chip_command (o.Select id) = chip (p.Select id)
chip_command o.Completion = chip p.Completion
chip_command o.Reset = chip p.Reset
chip_command (o.Read n) = chip (p.Read n)
chip_command o.Uid = chip p.Uid
chip_command (o.Write n word) = chip (p.Write n)

-- event `number`: 5 is a chip frame, any other is for labels
unfoldable pub command_of : ℕ → Signal → Command
command_of number signal = if eqb number 5 then chip_command signal.chip else label_command signal.label.call

-- what the frame f means as an answer to it; four bytes of data are right for every block
unfoldable pub reading_for : ℕ → Signal → List ℕ → Reading
reading_for number signal f = reading_of (command_of number signal) signal.label.uid 4 f
