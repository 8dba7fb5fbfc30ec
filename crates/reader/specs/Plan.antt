-- Not for the reader of the paper: how the code puts a request together. Laws say that this comes to what Request says. Assumes nothing.
use Rattle.std.specs.Prelude.{Bool, List, ◌++◌, ℕ, ◌+◌, ◌-◌, ◌*◌, ◌≤◌, ◌<◌, take, if◌then◌else◌}
use Rattle.frame.specs.Number.{bytes_of}
use Rattle.frame.specs.Ending.{bytes_for}
use Rattle.request.specs.declared.label.Target.{Target}
use Rattle.request.specs.declared.label.Target.TheVariants.{Everyone, Selected, One}
use Rattle.request.specs.declared.label.Family.{Family}
use Rattle.request.specs.declared.label.Family.TheVariants.{Any, Only}
use Rattle.request.specs.Table.{row_of}
use Rattle.request.specs.declared.table.Row.{Row}
use Rattle.request.specs.declared.label.Params.{Params}
use Rattle.reader.specs.declared.command.ChipTask.{ChipTask}
use Rattle.reader.specs.declared.command.ChipTask.TheVariants as p
use Rattle.reader.specs.declared.command.Command.{Command}
use Rattle.reader.specs.declared.command.Command.TheVariants.{Inventory, Label, Chip, Other}
use Rattle.reader.specs.declared.writer.Low.{Low}
use Rattle.reader.specs.declared.writer.Plan.{Plan}
use Rattle.reader.specs.Request.{flags}

-- the low bytes of a number, so many of them
abbrev pub low : ℕ → ℕ → Low
low v k = record { number = v; bytes = k }

abbrev pub none : Low
none = low 0 0

abbrev pub low_bytes : Low → List ℕ
low_bytes l = bytes_of l.bytes l.number

-- the parts of a plan, one behind the other
unfoldable pub parts_of : Plan → List ℕ → List ℕ → List ℕ
parts_of p uid d = (((low_bytes p.head ++ take p.uids uid) ++ low_bytes p.par) ++ low_bytes p.mask) ++ take p.datas d

abbrev pub uid_count : Target → ℕ
uid_count Everyone = 0
uid_count Selected = 0
uid_count One = 8

abbrev pub label_plan : Target → Bool → Row → Params → ℕ → Plan
label_plan to option row p n =
    record {
      head = low (flags to option + 256 * row.code) 2;
      uids = uid_count to;
      par = low (p.first + 256 * p.second) (row.len - 4);
      mask = none;
      datas = (if row.block then n else 0);
    }

abbrev pub short_plan : Low → ℕ → Plan
short_plan head n = record { head = head; uids = 0; par = none; mask = none; datas = n }

abbrev pub mask_plan : ℕ → Bool → Low → ℕ → ℕ → Plan
mask_plan flags sixteen par bits mask =
    record { head = low (flags + (if sixteen then 0 else 32) + 256) 2; uids = 0; par = par; mask = low mask (bytes_for bits); datas = 0 }

unfoldable pub inventory_plan : Family → Bool → ℕ → ℕ → Plan
inventory_plan Any sixteen bits mask = mask_plan 6 sixteen (low bits 1) bits mask
inventory_plan (Only afi) sixteen bits mask = mask_plan 22 sixteen (low (afi + 256 * bits) 2) bits mask

unfoldable pub chip_plan : ChipTask → ℕ → Plan
chip_plan p.Initiate n = short_plan (low 0x0006 2) 0
chip_plan p.Pcall n = short_plan (low 0x0406 2) 0
chip_plan (p.Marker s) n = short_plan (low (s * 16 + 6) 1) 0
chip_plan (p.Select id) n = short_plan (low (0x0E + 256 * id) 2) 0
chip_plan p.Completion n = short_plan (low 0x0F 1) 0
chip_plan p.Reset n = short_plan (low 0x0C 1) 0
chip_plan (p.Read a) n = short_plan (low (0x08 + 256 * a) 2) 0
chip_plan p.Uid n = short_plan (low 0x0B 1) 0
chip_plan (p.Write a) n = short_plan (low (0x09 + 256 * a) 2) n

unfoldable pub plan_of : Command → ℕ → Plan
plan_of (Inventory to option family sixteen bits mask) n = inventory_plan family sixteen bits mask
plan_of (Label to option task p) n = label_plan to option (row_of task) p n
plan_of (Chip to option task) n = chip_plan task n
plan_of (Other kind code) n = short_plan none 0

-- the parameters of one byte are bytes
unfoldable pub RangedFamily : Family → Type 0
RangedFamily Any = Unit
RangedFamily (Only afi) = afi < 256

unfoldable pub RangedChip : ChipTask → Type 0
RangedChip p.Initiate = Unit
RangedChip p.Pcall = Unit
RangedChip (p.Marker s) = s < 256
RangedChip (p.Select id) = id < 256
RangedChip p.Completion = Unit
RangedChip p.Reset = Unit
RangedChip (p.Read a) = a < 256
RangedChip p.Uid = Unit
RangedChip (p.Write a) = a < 256

unfoldable pub Ranged : Command → Type 0
Ranged (Inventory to option family sixteen bits mask) = RangedFamily family
Ranged (Label to option task p) = (p.first < 256) × (p.second < 256)
Ranged (Chip to option task) = RangedChip task
Ranged (Other kind code) = Unit

-- a plan that can be laid: no more bytes of the UID and of data than there are, and room for its frame
pub record PlanFits (p : Plan) (n room : ℕ) : Type 0 where
  pub uid : p.uids ≤ 8
  pub sent : p.datas ≤ n
  pub whole : p.head.bytes + p.uids + p.par.bytes + p.mask.bytes + p.datas + 2 ≤ room
