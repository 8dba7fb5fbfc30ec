-- Frames behind which nothing is told, of any tag or of all but one: they can change slots and masks alone, which no change names. Assumes nothing.
use Rattle.std.specs.Prelude.{Bool, true, false, not, List, [], ◌≡◌, ℕ, ◌<◌, eqb, if◌then◌else◌}
use Rattle.frame.specs.Number.{num, part}
use Rattle.request.specs.Table.{row_of}
use Rattle.request.specs.declared.table.Success.{Success}
use Rattle.request.specs.declared.table.Success.TheVariants as s
use Rattle.request.specs.declared.table.Task.{Task}
use Rattle.request.specs.declared.label.Target.{Target}
use Rattle.request.specs.declared.label.Target.TheVariants.{Everyone, Selected, One}
use Rattle.request.specs.declared.label.Call.{Call}
use Rattle.request.specs.declared.label.Call.TheVariants.{Ignored, Off, On, EndOfFrame, Nobody, Inventory, Fault, Do}
use Rattle.rack.specs.declared.tag.Kind.{Kind}
use Rattle.rack.specs.declared.tag.Kind.TheVariants.{Label, Chip, Other}
use Rattle.rack.specs.File.{count_of, kind_at}
use Rattle.rack.specs.Facts.{body_of}
use Rattle.trace.specs.Changes.{tag_line}

-- a task that gives what it reads
unfoldable pub calm_task : Success → Bool
calm_task s.Never = false
calm_task s.Done = false
calm_task s.Block = true
calm_task s.Info = true
calm_task s.Blocks = true
calm_task s.Locks = true

-- a label frame that leaves all but slots and masks
unfoldable pub calm_call : Call → Bool
calm_call Ignored = false
calm_call Off = false
calm_call On = false
calm_call EndOfFrame = false
calm_call Nobody = true
calm_call (Inventory family sixteen bits mask) = true
calm_call (Fault to code) = true
calm_call (Do to task p option) = calm_task (row_of task).success

-- ---- a label frame for one UID, which no other label acts on; but a Select (25) is heard by all

unfoldable pub one_task : Target → Task → Bool
one_task Everyone task = false
one_task Selected task = false
one_task One task = not (eqb (row_of task).code 0x25)

unfoldable pub one_call : Call → Bool
one_call Ignored = false
one_call Off = false
one_call On = false
one_call EndOfFrame = false
one_call Nobody = false
one_call (Inventory family sixteen bits mask) = false
one_call (Fault to code) = false
one_call (Do to task p option) = one_task to task

-- a label with this UID
unfoldable pub owned_by : List ℕ → Kind → List ℕ → Bool
owned_by uid Label b = eqb (num uid) (num (part 0 8 b))
owned_by uid Chip b = false
owned_by uid Other b = false

-- where a frame is for one UID, its owner alone may have changed
unfoldable pub may_differ : Bool → List ℕ → Kind → List ℕ → Bool
may_differ one uid kind b = if one then owned_by uid kind b else true

-- nothing is told of the others
unfoldable pub Only : Bool → List ℕ → List ℕ → List ℕ → Type 0
Only one uid old new =
    (i : ℕ) → i < count_of new → may_differ one uid (kind_at old i) (body_of old i) ≡ false → tag_line (kind_at new i) (body_of old i) (body_of new i) ≡ []
