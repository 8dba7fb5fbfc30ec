-- Why nobody answered an event, by the rack that it left: the first that applies. Assumes nothing.
use Rattle.std.specs.Prelude.{Bool, not, List, ℕ, eqb, ltb, if◌then◌else◌}
use Rattle.frame.specs.Number.{num}
use Rattle.request.specs.declared.label.Call.{Call}
use Rattle.request.specs.declared.label.Call.TheVariants.{Ignored, Off, On, EndOfFrame, Nobody, Inventory, Fault, Do}
use Rattle.request.specs.declared.label.Family.{Family}
use Rattle.request.specs.declared.label.Family.TheVariants.{Any}
use Rattle.request.specs.declared.label.Target.{Target}
use Rattle.request.specs.declared.label.Target.TheVariants.{Everyone, Selected, One}
use Rattle.request.specs.declared.label.Request.{Request}
use Rattle.request.specs.declared.chip.Order.{Order}
use Rattle.request.specs.declared.chip.Order.TheVariants as o
use Rattle.request.specs.declared.signal.Signal.{Signal}
use Rattle.request.specs.Why.{why_of, why_ignored}
use Rattle.trace.specs.declared.question.Ask.TheVariants as a
use Rattle.trace.specs.declared.reason.Reason.{Reason}
use Rattle.trace.specs.declared.reason.Reason.TheVariants as y
use Rattle.trace.specs.Question.{any_of, lowest_from}

-- ---- labels

-- a task for one UID: where its label is on, only Stay quiet has no answer
unfoldable pub for_uid : List ℕ → ℕ → Reason
for_uid r uid =
    if not (any_of (a.Uid uid) r) then y.NoUid
    else if not (any_of (a.UidOn uid) r) then y.LabelOff
    else y.QuietSilent

unfoldable pub for_target : List ℕ → Target → ℕ → Reason
for_target r Everyone uid = y.NotReady
for_target r Selected uid = y.NotSelected
for_target r One uid = for_uid r uid

unfoldable pub for_inventory : List ℕ → Family → Bool → Reason
for_inventory r family sixteen =
    if not (any_of (a.Ready Any) r) then y.NotReady
    else if not (any_of (a.Ready family) r) then y.NoFamily
    else if sixteen then y.InSlot 0
    else y.NoMask

unfoldable pub for_call : List ℕ → List ℕ → Call → ℕ → Reason
for_call r f Ignored uid = y.Other
for_call r f Off uid = y.Other
for_call r f On uid = y.Other
for_call r f EndOfFrame uid = y.Other
for_call r f Nobody uid = y.Frame (why_of f)
for_call r f (Inventory family sixteen bits mask) uid = for_inventory r family sixteen
for_call r f (Fault to code) uid = for_target r to uid
for_call r f (Do to task p option) uid = for_target r to uid

unfoldable pub for_labels : List ℕ → List ℕ → Request → Reason
for_labels r f request =
    if not (any_of a.Label r) then y.NoLabel
    else if not (any_of a.LabelOn r) then y.FieldOff
    else for_call r f request.call (num request.uid)

-- a bare end of frame: the lowest slot that a label now has
unfoldable pub for_end : List ℕ → Reason
for_end r = if ltb (lowest_from 16 0 r) 16 then y.InSlot (lowest_from 16 0 r) else y.NoRound

-- ---- chips

unfoldable pub in_inventory : List ℕ → Reason → Reason
in_inventory r reason = if any_of (a.ChipIn 2) r then reason else y.NotInventory

unfoldable pub for_order : List ℕ → List ℕ → Order → Reason
for_order r f o.Ignored = y.ChipFrame (why_ignored f)
for_order r f o.Off = y.Other
for_order r f o.On = y.Other
for_order r f o.Initiate = y.ChipNotReady
for_order r f o.Pcall = in_inventory r y.NoDraw
for_order r f (o.Marker s) = in_inventory r (y.ChipSlot s)
for_order r f (o.Select id) = y.NoChipId
for_order r f o.Completion = y.NoAnswer
for_order r f o.Reset = y.NoAnswer
for_order r f (o.Read n) = y.ChipNotSelected
for_order r f o.Uid = y.ChipNotSelected
for_order r f (o.Write n v) = y.NoAnswer

unfoldable pub for_chips : List ℕ → List ℕ → Order → Reason
for_chips r f order =
    if not (any_of a.Chip r) then y.NoChip
    else if not (any_of a.ChipOn r) then y.FieldOff
    else for_order r f order

-- ---- any event: 1 field off, 2 field on, 3 label frame, 4 bare end of frame, 5 chip frame

unfoldable pub reason_of : ℕ → List ℕ → Signal → List ℕ → Reason
reason_of number f signal r =
    if eqb number 1 then y.EveryOff
    else if eqb number 2 then y.TagsOn
    else if eqb number 3 then for_labels r f signal.label
    else if eqb number 4 then for_end r
    else if eqb number 5 then for_chips r f signal.chip
    else y.Other
