-- What an event asks, in words. Assumes nothing.
use Rattle.std.specs.Prelude.{Bool, true, false, List, ◌++◌, ℕ, ◌+◌, eqb, if◌then◌else◌}
use Rattle.frame.specs.Number.{bytes_of}
use Rattle.frame.specs.Ending.{bytes_for}
use Rattle.print.specs.Ascii.{ascii}
use Rattle.print.specs.Hex.{uid_text}
use Rattle.print.specs.Named.{word_byte, word_number}
use Rattle.request.specs.declared.table.Task.{Task}
use Rattle.request.specs.declared.table.Task.TheVariants as t
use Rattle.request.specs.declared.label.Params.{Params}
use Rattle.request.specs.declared.label.Target.{Target}
use Rattle.request.specs.declared.label.Target.TheVariants.{Everyone, Selected, One}
use Rattle.request.specs.declared.label.Family.{Family}
use Rattle.request.specs.declared.label.Family.TheVariants.{Any, Only}
use Rattle.request.specs.declared.label.Call.{Call}
use Rattle.request.specs.declared.label.Call.TheVariants as k
use Rattle.request.specs.declared.chip.Order.{Order}
use Rattle.request.specs.declared.chip.Order.TheVariants as o
use Rattle.request.specs.declared.signal.Signal.{Signal}

-- ---- labels

-- whom a task is for
unfoldable pub target_text : Target → List ℕ → List ℕ
target_text Everyone uid = ascii "all"
target_text Selected uid = ascii "selected"
target_text One uid = uid_text uid

unfoldable pub block_of : List ℕ → ℕ → List ℕ
block_of s n = word_number s n ++ ascii " of "

unfoldable pub byte_of : List ℕ → ℕ → List ℕ
byte_of s b = word_byte s b ++ ascii " of "

-- with Option its lock is read too
unfoldable pub read_text : ℕ → Bool → List ℕ
read_text n true = word_number (ascii "read block ") n ++ ascii " with lock of "
read_text n false = block_of (ascii "read block ") n

-- a first block and a last one
unfoldable pub range_text : List ℕ → Params → List ℕ
range_text s p = word_number s p.first ++ word_number (ascii " to ") (p.first + p.second)

unfoldable pub read_many_text : Params → Bool → List ℕ
read_many_text p true = range_text (ascii "read blocks ") p ++ ascii " with locks of "
read_many_text p false = range_text (ascii "read blocks ") p ++ ascii " of "

unfoldable pub status_text : Params → List ℕ
status_text p = range_text (ascii "status of blocks ") p ++ ascii " of "

-- a task, up to the target
unfoldable pub task_text : Task → Params → Bool → List ℕ
task_text t.Quiet p option = ascii "quiet "
task_text t.Read p option = read_text p.first option
task_text t.Write p option = block_of (ascii "write block ") p.first
task_text t.Lock p option = block_of (ascii "lock block ") p.first
task_text t.ReadMany p option = read_many_text p option
task_text t.Select p option = ascii "select "
task_text t.Ready p option = ascii "ready "
task_text t.WriteAfi p option = byte_of (ascii "write AFI ") p.first
task_text t.LockAfi p option = ascii "lock AFI of "
task_text t.WriteDsfid p option = byte_of (ascii "write DSFID ") p.first
task_text t.LockDsfid p option = ascii "lock DSFID of "
task_text t.Info p option = ascii "info of "
task_text t.Status p option = status_text p

unfoldable pub do_text : Target → List ℕ → Task → Params → Bool → List ℕ
do_text to uid task p option = task_text task p option ++ target_text to uid

-- an Inventory: its slots, the family where one is asked, the mask where there is one
unfoldable pub slots_text : Bool → List ℕ
slots_text true = ascii "inventory 16"
slots_text false = ascii "inventory"

unfoldable pub family_text : Family → List ℕ
family_text Any = ascii ""
family_text (Only afi) = word_byte (ascii " afi ") afi

-- as few bytes as hold the mask, high byte first
unfoldable pub bits_text : ℕ → ℕ → List ℕ
bits_text bits mask = uid_text (bytes_of (bytes_for bits) mask)

unfoldable pub mask_text : ℕ → ℕ → List ℕ
mask_text bits mask = if eqb bits 0 then ascii "" else word_number (ascii " mask ") bits ++ (ascii "/" ++ bits_text bits mask)

unfoldable pub inventory_text : Family → Bool → ℕ → ℕ → List ℕ
inventory_text family sixteen bits mask = slots_text sixteen ++ (family_text family ++ mask_text bits mask)

-- a frame that no label acts on is a label frame all the same
unfoldable pub call_text : List ℕ → Call → List ℕ
call_text uid k.Ignored = ascii "event"
call_text uid k.Off = ascii "off"
call_text uid k.On = ascii "on"
call_text uid k.EndOfFrame = ascii "eof"
call_text uid k.Nobody = ascii "label"
call_text uid (k.Inventory family sixteen bits mask) = inventory_text family sixteen bits mask
call_text uid (k.Fault to code) = ascii "label"
call_text uid (k.Do to task p option) = do_text to uid task p option

-- ---- chips

unfoldable pub order_text : Order → List ℕ
order_text o.Ignored = ascii "chip"
order_text o.Off = ascii "off"
order_text o.On = ascii "on"
order_text o.Initiate = ascii "initiate"
order_text o.Pcall = ascii "pcall"
order_text (o.Marker slot) = word_number (ascii "slot ") slot
order_text (o.Select id) = word_byte (ascii "select ") id
order_text o.Completion = ascii "completion"
order_text o.Reset = ascii "reset"
order_text (o.Read n) = word_number (ascii "get ") n
order_text o.Uid = ascii "uid"
order_text (o.Write n word) = word_number (ascii "put ") n

-- what event `number` asks: 5 is a chip frame, any other is for labels
unfoldable pub name_text : ℕ → Signal → List ℕ
name_text number signal = if eqb number 5 then order_text signal.chip else call_text signal.label.uid signal.label.call
