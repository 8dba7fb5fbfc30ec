-- A calm frame's step on a label is its own label with another slot and mask at most, and no line names these. Assumes nothing.
use Rattle.std.specs.Prelude.{if◌then◌else◌}
use mathlib.Core.Path.{◌≡◌, refl, sym, ap, ◌∙◌}
use mathlib.Core.Logic.{inr}
use mathlib.Core.Bool.{Bool, true, false, false≢true, not}
use mathlib.Core.List.{List, [], ◌∷◌}
use Prim.Native.Nat.{ℕ, zero, suc, ◌+◌, ◌-◌, ◌≤◌, ◌<◌}
use native.Mathlib.Omega.{arith}
use borrow.Author.Tests.{eq-eqb}
use lib.Dec.{eqb, ltb}
use lib.ListN.{length, get_or}
use Rattle.frame.specs.Number.{num, bytes_of, part}
use Rattle.frame.specs.Ending.{ends_in, ends_in_slot}
use Rattle.frame.proofs.Bools.{if_both, if_same}
use Rattle.frame.proofs.Stores.{sets_off}
use Rattle.request.specs.Table.{row_of}
use Rattle.request.specs.declared.label.Target.{Target}
use Rattle.request.specs.declared.label.Target.TheVariants.{Everyone, Selected, One}
use Rattle.request.specs.declared.label.Family.{Family}
use Rattle.request.specs.declared.table.Task.{Task}
use Rattle.request.specs.declared.table.Task.TheVariants as t
use Rattle.request.specs.declared.label.Params.{Params}
use Rattle.request.specs.declared.label.Call.{Call}
use Rattle.request.specs.declared.label.Call.TheVariants.{Ignored, Off, On, EndOfFrame, Nobody, Inventory, Fault, Do}
use Rattle.request.specs.declared.label.Request.{Request}
use Rattle.label.specs.declared.step.Label.{Label}
use Rattle.label.specs.declared.step.Answer.{Answer}
use Rattle.label.specs.declared.step.Answer.TheVariants as a
use Rattle.label.specs.declared.step.Stepped.{Stepped}
use Rattle.label.specs.Step.{with_slot, ended, told, heeds, turn, opens, inventory, acts, several, read_block, read_blocks, read_locks}
use Rattle.label.specs.Step.{perform, passed, asked, faulted, awake, called, act}
use Rattle.label_body.specs.Body.{load_of, store_of, named, worked, stepped, next_label}
use Rattle.label_body.specs.Slots.{seek}
use Rattle.label_body.proofs.BodyStored.{store_seek}
use Rattle.label_body.proofs.Slots.{seek_get_d}
use Rattle.trace.specs.Change.{same_bytes}
use Rattle.trace.specs.Labels.{label_told, label_line}
use Rattle.trace.specs.Calm.{calm_task, calm_call, one_task, one_call}

-- ---- the step

-- some answer, and the label as it was, or in some slot with some mask
data Still (l : Label) : Stepped → Type 0 where
  stays : (x : Answer) → Still l (told x l)
  seeks : (x : Answer) (s m e : ℕ) → Still l (told x (with_slot s m e l))

not_so : (t : Bool) → not t ≡ true → t ≡ false
not_so true h = absurd (false≢true h)
not_so false h = refl

module _ (l : Label) where
  either : (t : Bool) {x y : Stepped} → Still l x → Still l y → Still l (if t then x else y)
  either t f g = if_both (Still l) t f g

  ends : (x : Answer) → Still l (told x (ended l))
  unfolding ended
  ends x = seeks x 255 0 0

  awakes : (s : Stepped) → Still l s → Still l (awake s l)
  awakes s f = either (eqb l.state 0) (stays a.Silent) f

  still_opens : (sixteen : Bool) (bits mask : ℕ) → Still l (opens sixteen bits mask (ended l))
  unfolding opens turn ended
  still_opens true bits mask = either (ends_in_slot l.uid mask bits 0) (seeks a.Found 0 bits mask) (seeks a.Silent 0 bits mask)
  still_opens false bits mask = either (ends_in l.uid mask bits) (ends a.Found) (ends a.Silent)

  still_inventory : (family : Family) (sixteen : Bool) (bits mask : ℕ) → Still l (inventory family sixteen bits mask l)
  unfolding inventory
  still_inventory family sixteen bits mask = either (heeds family l) (still_opens sixteen bits mask) (ends a.Silent)

  still_faulted : (to : Target) (uid : List ℕ) (code : ℕ) → Still l (faulted to uid code l)
  unfolding faulted
  still_faulted to uid code = either (acts to uid l) (ends (a.Error code)) (ends a.Silent)

  -- those that read blocks
  still_read : (p : ℕ) (option : Bool) → Still l (read_block p option (ended l))
  unfolding read_block ended
  still_read p option = either (ltb l.blocks p) (ends (a.Error 0x10)) (ends (a.Block p option))

  still_blocks : (n more : ℕ) (option : Bool) → Still l (read_blocks n more option (ended l))
  unfolding read_blocks ended
  still_blocks n more option = either (ltb l.blocks (n + more)) (ends (a.Error 0x10)) (ends (several option n more))

  still_locks : (n more : ℕ) → Still l (read_locks n more (ended l))
  unfolding read_locks ended
  still_locks n more = either (ltb l.blocks (n + more)) (ends (a.Error 0x10)) (ends (a.Locks n more))

  still_asked : (task : Task) (to : Target) (uid : List ℕ) (p : Params) (option : Bool) (count lock : ℕ) → calm_task (row_of task).success ≡ true
      → Still l (asked to uid task p option count lock l)
  unfolding asked perform passed row_of calm_task
  still_asked t.Quiet to uid p option count lock h = absurd (false≢true h)
  still_asked t.Read to uid p option count lock h = either (acts to uid l) (still_read p.first option) (ends a.Silent)
  still_asked t.Write to uid p option count lock h = absurd (false≢true h)
  still_asked t.Lock to uid p option count lock h = absurd (false≢true h)
  still_asked t.ReadMany to uid p option count lock h = either (acts to uid l) (still_blocks p.first p.second option) (ends a.Silent)
  still_asked t.Select to uid p option count lock h = absurd (false≢true h)
  still_asked t.Ready to uid p option count lock h = absurd (false≢true h)
  still_asked t.WriteAfi to uid p option count lock h = absurd (false≢true h)
  still_asked t.LockAfi to uid p option count lock h = absurd (false≢true h)
  still_asked t.WriteDsfid to uid p option count lock h = absurd (false≢true h)
  still_asked t.LockDsfid to uid p option count lock h = absurd (false≢true h)
  still_asked t.Info to uid p option count lock h = either (acts to uid l) (ends a.Info) (ends a.Silent)
  still_asked t.Status to uid p option count lock h = either (acts to uid l) (still_locks p.first p.second) (ends a.Silent)

  still_called : (call : Call) (uid : List ℕ) (count lock : ℕ) → calm_call call ≡ true → Still l (called call uid count lock l)
  unfolding called calm_call
  still_called Ignored uid count lock h = absurd (false≢true h)
  still_called Off uid count lock h = absurd (false≢true h)
  still_called On uid count lock h = absurd (false≢true h)
  still_called EndOfFrame uid count lock h = absurd (false≢true h)
  still_called Nobody uid count lock h = awakes _ (ends a.Silent)
  still_called (Inventory family sixteen bits mask) uid count lock h = awakes _ (still_inventory family sixteen bits mask)
  still_called (Fault to code) uid count lock h = awakes _ (still_faulted to uid code)
  still_called (Do to task p option) uid count lock h = awakes _ (still_asked task to uid p option count lock h)

  -- one that a frame for one UID is not for
  still_past : (task : Task) (uid : List ℕ) (p : Params) (option : Bool) (count lock : ℕ) → one_task One task ≡ true → acts One uid l ≡ false
      → Still l (asked One uid task p option count lock l)
  unfolding asked passed one_task
  still_past task uid p option count lock o n = rw (n, not_so (eqb (row_of task).code 0x25) o) (ends a.Silent)

  still_other : (to : Target) (task : Task) (uid : List ℕ) (p : Params) (option : Bool) (count lock : ℕ) → one_task to task ≡ true → acts One uid l ≡ false
      → Still l (asked to uid task p option count lock l)
  unfolding one_task
  still_other Everyone task uid p option count lock o n = absurd (false≢true o)
  still_other Selected task uid p option count lock o n = absurd (false≢true o)
  still_other One task uid p option count lock o n = still_past task uid p option count lock o n

  other_called : (call : Call) (uid : List ℕ) (count lock : ℕ) → one_call call ≡ true → acts One uid l ≡ false → Still l (called call uid count lock l)
  unfolding called one_call
  other_called Ignored uid count lock o n = absurd (false≢true o)
  other_called Off uid count lock o n = absurd (false≢true o)
  other_called On uid count lock o n = absurd (false≢true o)
  other_called EndOfFrame uid count lock o n = absurd (false≢true o)
  other_called Nobody uid count lock o n = absurd (false≢true o)
  other_called (Inventory family sixteen bits mask) uid count lock o n = absurd (false≢true o)
  other_called (Fault to code) uid count lock o n = absurd (false≢true o)
  other_called (Do to task p option) uid count lock o n = awakes _ (still_other to task uid p option count lock o n)

-- ---- the line

-- bytes that are the same at each place
pub same_all : (n at : ℕ) (x y : List ℕ) → ((j : ℕ) → at ≤ j → j < at + n → get_or x j 0 ≡ get_or y j 0) → same_bytes n at x y ≡ true
unfolding same_bytes
same_all zero at x y h = refl
same_all (suc n) at x y h =
    rw (eq-eqb _ _ (h at (omega arith) (omega arith))) (same_all n (suc at) x y (λ j g k. h j (omega arith) (omega arith)))

module _ (x y : List ℕ) (low : (j : ℕ) → j < 15 → get_or x j 0 ≡ get_or y j 0) (high : (j : ℕ) → 25 ≤ j → get_or x j 0 ≡ get_or y j 0) where
  untold : label_told x y ≡ false
  unfolding label_told
  untold =
      rw (same_all 7 8 x y (λ j g k. low j (omega arith)), same_all (length y - 32) 32 x y (λ j g k. high j (omega arith)))
      (if_same (ltb (length x) (length y)) false)

  pub no_line : label_line x y ≡ []
  unfolding label_line
  no_line = rw untold refl

module _ (bytes b : List ℕ) where
  sought : (s m e : ℕ) → label_line b (store_of b (with_slot s m e (load_of b))) ≡ []
  unfolding seek
  sought s m e =
      ap (label_line b) (store_seek b s m e)
      ∙ no_line b (seek s m e b) (λ j h. sym (seek_get_d s m e b j h))
      (λ j h. sym (sets_off b (s ∷ m ∷ bytes_of 8 e) 15 j (inr (omega arith))))

  stilled : (s : Stepped) → Still (load_of b) s → label_line b (worked s.work bytes (store_of b s.next)) ≡ []
  unfolding worked load_of
  stilled s (stays x) = sought (get_or b 15 0) (get_or b 16 0) (num (part 17 8 b))
  stilled s (seeks x t m e) = sought t m e

  -- a label behind a calm frame
  pub calm_label : (r : Request) → calm_call r.call ≡ true → label_line b (next_label r bytes b) ≡ []
  unfolding next_label stepped act
  calm_label r h = stilled _ (still_called (load_of b) r.call r.uid (length bytes) (named r.call b) h)

  -- and one behind a frame for another's UID
  pub other_label : (r : Request) → one_call r.call ≡ true → eqb (num r.uid) (num (part 0 8 b)) ≡ false → label_line b (next_label r bytes b) ≡ []
  unfolding next_label stepped act acts load_of
  other_label r o n = stilled _ (other_called (load_of b) r.call r.uid (length bytes) (named r.call b) o n)
