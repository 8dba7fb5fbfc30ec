-- Document 01, "Labels" and "Events", and document 02, P1 and P2: what a label does with a request, and what it answers. Assumes nothing.
use Rattle.std.specs.Prelude.{Bool, true, false, not, ◌&&◌, ◌||◌, List, ℕ, ◌+◌, ◌/◌, ◌%◌, eqb, ltb, None, Some, if◌then◌else◌}
use Rattle.frame.specs.Choose.{bit, set?}
use Rattle.frame.specs.Number.{num}
use Rattle.frame.specs.Ending.{ends_in, ends_in_slot}
use Rattle.request.specs.declared.label.Target.{Target}
use Rattle.request.specs.declared.label.Target.TheVariants.{Everyone, Selected, One}
use Rattle.request.specs.declared.label.Family.{Family}
use Rattle.request.specs.declared.label.Family.TheVariants.{Any, Only}
use Rattle.request.specs.Table.{row_of}
use Rattle.request.specs.declared.table.Task.{Task}
use Rattle.request.specs.declared.table.Task.TheVariants as t
use Rattle.request.specs.declared.label.Params.{Params}
use Rattle.request.specs.declared.label.Call.{Call}
use Rattle.request.specs.declared.label.Call.TheVariants.{Ignored, Off, On, EndOfFrame, Nobody, Inventory, Fault, Do}
use Rattle.request.specs.declared.label.Request.{Request}
use Rattle.label.specs.declared.step.Label.{Label}
use Rattle.label.specs.declared.step.Answer.{Answer}
use Rattle.label.specs.declared.step.Answer.TheVariants as a
use Rattle.label.specs.declared.step.Work.TheVariants as w
use Rattle.label.specs.declared.step.Stepped.{Stepped}

-- ---- a label with some fields anew

-- DSFID, AFI, locks, state, slot, mask length and mask are what a step can change
abbrev pub label : ℕ → ℕ → ℕ → ℕ → ℕ → ℕ → ℕ → Label → Label
label dsfid afi locks state slot bits mask l =
    record {
      uid = l.uid;
      dsfid = dsfid;
      afi = afi;
      locks = locks;
      blocks = l.blocks;
      size = l.size;
      ic = l.ic;
      state = state;
      slot = slot;
      bits = bits;
      mask = mask;
    }

abbrev pub with_state : ℕ → Label → Label
with_state s l = label l.dsfid l.afi l.locks s l.slot l.bits l.mask l

abbrev pub with_slot : ℕ → ℕ → ℕ → Label → Label
with_slot slot bits mask l = label l.dsfid l.afi l.locks l.state slot bits mask l

abbrev pub with_afi : ℕ → Label → Label
with_afi v l = label l.dsfid v l.locks l.state l.slot l.bits l.mask l

abbrev pub with_dsfid : ℕ → Label → Label
with_dsfid v l = label v l.afi l.locks l.state l.slot l.bits l.mask l

abbrev pub with_locks : ℕ → Label → Label
with_locks v l = label l.dsfid l.afi v l.state l.slot l.bits l.mask l

-- no slot sequence runs
unfoldable pub ended : Label → Label
ended l = with_slot 255 0 0 l

-- ---- answers

abbrev pub told : Answer → Label → Stepped
told answer l = record { next = l; answer = answer; work = None }

abbrev pub silent : Label → Stepped
silent l = told a.Silent l

-- success otherwise answers 00
abbrev pub done : Label → Stepped
done l = told a.Done l

-- an error is 01, code
abbrev pub failed : ℕ → Label → Stepped
failed code l = told (a.Error code) l

-- ---- field, Inventory, slots

-- off puts every tag in state 0 and clears slot and mask
unfoldable pub field_off : Label → Stepped
field_off l = silent (with_state 0 (ended l))

-- on moves tags in state 0 to ready; others stay
unfoldable pub field_on : Label → Stepped
field_on l = if eqb l.state 0 then silent (with_state 1 l) else silent l

-- document 02, P1 (ISO/IEC 15693-3, table 1), which corrects document 01: the AFI passes if absent; 00 asks for all, a byte with low half 0 for
-- every subfamily of that high half, any other byte for that one only
unfoldable pub passes : Family → ℕ → Bool
passes Any afi = true
passes (Only f) afi = eqb f 0 || ((eqb (f % 16) 0 && eqb (f / 16) (afi / 16)) || eqb f afi)

-- state 1 or 3
unfoldable pub ready : Label → Bool
ready l = eqb l.state 1 || eqb l.state 3

-- the filter: state 1 or 3, and the AFI passes
unfoldable pub heeds : Family → Label → Bool
heeds family l = ready l && passes family l.afi

-- in a slot a label answers when its UID ends in the mask, with the four bits of the slot above it
unfoldable pub turn : Label → Stepped
turn l = if ends_in_slot l.uid l.mask l.bits l.slot then told a.Found l else silent l

-- sixteen slots: slot 0 starts; one slot: it answers when its UID ends in the mask
unfoldable pub opens : Bool → ℕ → ℕ → Label → Stepped
opens true bits mask l = turn (with_slot 0 bits mask l)
opens false bits mask l = if ends_in l.uid mask bits then told a.Found l else silent l

unfoldable pub inventory : Family → Bool → ℕ → ℕ → Label → Stepped
inventory family sixteen bits mask l =
    if heeds family l then opens sixteen bits mask (ended l)
    else silent (ended l)

-- a bare end of frame adds one to a running slot; after 15 the sequence ends in silence
unfoldable pub end_of_frame : Label → Stepped
end_of_frame l =
    if ltb l.slot 15 then turn (with_slot (l.slot + 1) l.bits l.mask l)
    else if eqb l.slot 15 then silent (ended l)
    else silent l

-- ---- who acts

-- Address: only its owner acts, in any state but off; Select: only state 3; neither: states 1 and 3
unfoldable pub acts : Target → List ℕ → Label → Bool
acts Everyone uid l = ready l
acts Selected uid l = eqb l.state 3
acts One uid l = eqb (num uid) (num l.uid)

-- ---- what one that acts does. Block number past the end, 10; then locks

unfoldable pub read_block : ℕ → Bool → Label → Stepped
read_block n lock l = if ltb l.blocks n then failed 0x10 l else told (a.Block n lock) l

-- document 02, P2: block n and so many more behind it, each with its lock byte before it if Option
abbrev pub several : Bool → ℕ → ℕ → Answer
several true n more = a.LocksAndBlocks n more
several false n more = a.Blocks n more

-- any of them past the end, 10; their sum is no byte
unfoldable pub read_blocks : ℕ → ℕ → Bool → Label → Stepped
read_blocks n more lock l = if ltb l.blocks (n + more) then failed 0x10 l else told (several lock n more) l

unfoldable pub read_locks : ℕ → ℕ → Label → Stepped
read_locks n more l = if ltb l.blocks (n + more) then failed 0x10 l else told (a.Locks n more) l

-- 5 bytes and a block: count bytes were sent; lock is the block's
unfoldable pub write_block : ℕ → Bool → ℕ → ℕ → Label → Stepped
write_block n option count lock l =
    if not (eqb count (l.size + 1)) then failed 0x02 l
    else if option then failed 0x03 l
    else if ltb l.blocks n then failed 0x10 l
    else if eqb lock 1 then failed 0x12 l
    else record { next = l; answer = a.Done; work = Some (w.Write n) }

unfoldable pub lock_block : ℕ → ℕ → Label → Stepped
lock_block n lock l =
    if ltb l.blocks n then failed 0x10 l
    else if eqb lock 1 then failed 0x11 l
    else record { next = l; answer = a.Done; work = Some (w.Lock n) }

-- locks: bit 0 AFI, bit 1 DSFID
unfoldable pub write_afi : ℕ → Label → Stepped
write_afi v l = if set? (bit 0 l.locks) then failed 0x12 l else done (with_afi v l)

unfoldable pub lock_afi : Label → Stepped
lock_afi l = if set? (bit 0 l.locks) then failed 0x11 l else done (with_locks (l.locks + 1) l)

unfoldable pub write_dsfid : ℕ → Label → Stepped
write_dsfid v l = if set? (bit 1 l.locks) then failed 0x12 l else done (with_dsfid v l)

unfoldable pub lock_dsfid : Label → Stepped
lock_dsfid l = if set? (bit 1 l.locks) then failed 0x11 l else done (with_locks (l.locks + 2) l)

-- Stay quiet is always silent: state 2. 25 selects, 26 readies. 23 and 2C take a first block and a count less 1
unfoldable pub perform : Task → Params → Bool → ℕ → ℕ → Label → Stepped
perform t.Quiet p option count lock l = silent (with_state 2 l)
perform t.Read p option count lock l = read_block p.first option l
perform t.Write p option count lock l = write_block p.first option count lock l
perform t.Lock p option count lock l = lock_block p.first lock l
perform t.ReadMany p option count lock l = read_blocks p.first p.second option l
perform t.Select p option count lock l = done (with_state 3 l)
perform t.Ready p option count lock l = done (with_state 1 l)
perform t.WriteAfi p option count lock l = write_afi p.first l
perform t.LockAfi p option count lock l = lock_afi l
perform t.WriteDsfid p option count lock l = write_dsfid p.first l
perform t.LockDsfid p option count lock l = lock_dsfid l
perform t.Info p option count lock l = told a.Info l
perform t.Status p option count lock l = read_locks p.first p.second l

-- what one that does not act does: Select (25), well formed, for another UID sends state 3 to 1
unfoldable pub passed : Task → Label → Stepped
passed task l = if eqb (row_of task).code 0x25 && eqb l.state 3 then silent (with_state 1 l) else silent l

-- every label frame, good or bad, first ends a running slot sequence
unfoldable pub asked : Target → List ℕ → Task → Params → Bool → ℕ → ℕ → Label → Stepped
asked to uid task p option count lock l = if acts to uid l then perform task p option count lock (ended l) else passed task (ended l)

unfoldable pub faulted : Target → List ℕ → ℕ → Label → Stepped
faulted to uid code l = if acts to uid l then failed code (ended l) else silent (ended l)

-- tags in state 0 ignore all but the field
abbrev pub awake : Stepped → Label → Stepped
awake s l = if eqb l.state 0 then silent l else s

-- count is how many bytes a write sent, lock that of the block which the first parameter names
unfoldable pub called : Call → List ℕ → ℕ → ℕ → Label → Stepped
called Ignored uid count lock l = silent l
called Off uid count lock l = field_off l
called On uid count lock l = field_on l
called EndOfFrame uid count lock l = awake (end_of_frame l) l
called Nobody uid count lock l = awake (silent (ended l)) l
called (Inventory family sixteen bits mask) uid count lock l = awake (inventory family sixteen bits mask l) l
called (Fault to code) uid count lock l = awake (faulted to uid code l) l
called (Do to task p option) uid count lock l = awake (asked to uid task p option count lock l) l

unfoldable pub act : Request → ℕ → ℕ → Label → Stepped
act r count lock l = called r.call r.uid count lock l
