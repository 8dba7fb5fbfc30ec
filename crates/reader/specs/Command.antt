-- Document 01, "Reader's side", and document 02, P2: which commands have a request. 7 is given when this says no. Assumes nothing.
use Rattle.std.specs.Prelude.{Bool, true, false, not, ◌&&◌, ◌||◌, ℕ, ◌+◌, ◌^◌, eqb, ltb, leb}
use Rattle.request.specs.Table.{row_of, option_fits}
use Rattle.request.specs.Label.{most, target_fits}
use Rattle.request.specs.declared.table.Task.{Task}
use Rattle.request.specs.declared.table.Row.{Row}
use Rattle.request.specs.declared.label.Params.{Params}
use Rattle.request.specs.declared.label.Target.{Target}
use Rattle.request.specs.declared.label.Target.TheVariants.{Everyone, Selected, One}
use Rattle.request.specs.Chip.{listed}
use Rattle.reader.specs.declared.command.ChipTask.{ChipTask}
use Rattle.reader.specs.declared.command.ChipTask.TheVariants as p
use Rattle.reader.specs.declared.command.Command.{Command}
use Rattle.reader.specs.declared.command.Command.TheVariants.{Inventory, Label, Chip, Other}

abbrev pub everyone : Target → Bool
everyone Everyone = true
everyone Selected = false
everyone One = false

-- data is 1 to 32 bytes; n is how many there are
abbrev pub data_fits : Row → ℕ → Bool
data_fits row n = not row.block || (leb 1 n && leb n 32)

-- document 02, P2: a first block plus count less 1, which are what a frame of 6 bytes asks, is at most 255
abbrev pub range_fits : Row → Params → Bool
range_fits row p = ltb row.len 6 || leb (p.first + p.second) 255

-- Option where none is allowed, a target that the task does not take, data of another length and blocks over 255 have no request
unfoldable pub label_fits : Target → Bool → Task → Params → ℕ → Bool
label_fits to option task p n =
    option_fits (row_of task) option && (target_fits (row_of task) to && (data_fits (row_of task) n && range_fits (row_of task) p))

-- slot s is 1 to 15, an address is listed, data is 4 bytes
unfoldable pub chip_fits : ChipTask → ℕ → Bool
chip_fits p.Initiate n = true
chip_fits p.Pcall n = true
chip_fits (p.Marker s) n = leb 1 s && leb s 15
chip_fits (p.Select id) n = true
chip_fits p.Completion n = true
chip_fits p.Reset n = true
chip_fits (p.Read a) n = listed a
chip_fits p.Uid n = true
chip_fits (p.Write a) n = eqb n 4 && listed a

-- a mask is no longer than allowed and has no bits above its length
unfoldable pub inventory_fits : Bool → ℕ → ℕ → Bool
inventory_fits sixteen bits mask = leb bits (most sixteen) && ltb mask (2 ^ bits)

-- 01 and chip commands are for everyone only, without Option; a code not above has no request
unfoldable pub valid : Command → ℕ → Bool
valid (Inventory to option family sixteen bits mask) n = not option && (everyone to && inventory_fits sixteen bits mask)
valid (Label to option task p) n = label_fits to option task p n
valid (Chip to option task) n = not option && (everyone to && chip_fits task n)
valid (Other kind code) n = false
