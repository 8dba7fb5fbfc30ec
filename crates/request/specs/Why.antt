-- Why a frame is one that no tag acts on: the first thing about it, in the order of the decoding. Assumes nothing.
use Rattle.std.specs.Prelude.{Bool, true, false, not, List, ℕ, ◌+◌, eqb, ltb, length, get_or, if◌then◌else◌}
use Rattle.frame.specs.Choose.{bit, set?}
use Rattle.frame.specs.CheckSum.{right}
use Rattle.frame.specs.Ending.{bytes_for}
use Rattle.request.specs.declared.label.Call.{Call}
use Rattle.request.specs.declared.label.Call.TheVariants.{Ignored, Off, On, EndOfFrame, Nobody, Inventory, Fault, Do}
use Rattle.request.specs.declared.chip.Order.{Order}
use Rattle.request.specs.declared.chip.Order.TheVariants as o
use Rattle.request.specs.declared.why.Why.{Why}
use Rattle.request.specs.declared.why.Why.TheVariants as w
use Rattle.request.specs.declared.why.WhyChip.{WhyChip}
use Rattle.request.specs.declared.why.WhyChip.TheVariants as wc
use Rattle.request.specs.Label as labels
use Rattle.request.specs.Label.{flag, most}
use Rattle.request.specs.Chip as chips

abbrev pub is_nobody : Call → Bool
is_nobody Ignored = false
is_nobody Off = false
is_nobody On = false
is_nobody EndOfFrame = false
is_nobody Nobody = true
is_nobody (Inventory family sixteen bits mask) = false
is_nobody (Fault to code) = false
is_nobody (Do to task p option) = false

abbrev pub is_ignored : Order → Bool
is_ignored o.Ignored = true
is_ignored o.Off = false
is_ignored o.On = false
is_ignored o.Initiate = false
is_ignored o.Pcall = false
is_ignored (o.Marker s) = false
is_ignored (o.Select id) = false
is_ignored o.Completion = false
is_ignored o.Reset = false
is_ignored (o.Read a) = false
is_ignored o.Uid = false
is_ignored (o.Write a v) = false

-- mask length at place at
unfoldable pub why_masked : Bool → ℕ → List ℕ → Why
why_masked sixteen at f =
    if ltb (most sixteen) (get_or f at 0) then w.LongMask
    else if not (eqb (length f) (at + 3 + bytes_for (get_or f at 0))) then w.OtherLength
    else w.Acts

-- Inventory set
unfoldable pub why_inventory : List ℕ → Why
why_inventory f =
    if not (eqb (get_or f 1 0) 1) then w.OtherCommand
    else if set? (flag 6 f) then w.InventoryOption
    else if set? (flag 4 f) then why_masked (eqb (flag 5 f) 0) 3 f
    else why_masked (eqb (flag 5 f) 0) 2 f

-- a task, with Address or without, that some label acts on, or not: 01 wants its flag; without a UID it wants one; with one, Stay quiet alone has no
-- error to say
unfoldable pub why_task : ℕ → Bool → Bool → Why
why_task c address nobody =
    if not nobody then w.Acts
    else if eqb c 1 then w.Unflagged
    else if address then w.QuietFault
    else w.WantsUid

-- flag bits as in `addressing`
unfoldable pub why_right : List ℕ → ℕ → Bool → Why
why_right f flags nobody =
    if set? (bit 2 flags) then why_inventory f
    else if set? (bit 5 flags) then
    (if set? (bit 4 flags) then w.BothBits
    else if ltb (length f) 12 then w.ShortForUid
    else why_task (get_or f 1 0) true nobody)
    else why_task (get_or f 1 0) false nobody

unfoldable pub why_of : List ℕ → Why
why_of f =
    if ltb (length f) 4 then w.Short
    else if set? (flag 3 f) then w.Bit3
    else if set? (flag 7 f) then w.Bit7
    else if not (right f) then w.Sum
    else why_right f (get_or f 0 0) (is_nobody (labels.decode f).call)

unfoldable pub why_ignored : List ℕ → WhyChip
why_ignored f =
    if ltb (length f) 3 then wc.Short
    else if not (right f) then wc.Sum
    else if is_ignored (chips.decode f) then wc.Unknown
    else wc.Heard
