-- The ways a label's step goes, one for each end of the definition's tests, with what holds there. A law over every request is by the ways.
-- Assumes nothing.
use Rattle.std.specs.Prelude.{Some}
use Rattle.std.specs.Prelude.{if◌then◌else◌}
use mathlib.Core.Path.{◌≡◌, refl}
use mathlib.Core.Bool.{Bool, true, false, not, ◌&&◌}
use mathlib.Core.List.{List}
use Prim.Native.Nat.{ℕ, ◌+◌, ◌^◌, ◌≤◌, ◌<◌}
use lib.Dec.{eqb, ltb}
use borrow.Author.Tests.{eqb-true, eqb-false, ltb-true, ltb-false, not-false}
use Rattle.frame.specs.Choose.{bit, set?}
use Rattle.frame.specs.Ending.{ends_in, ends_in_slot}
use Rattle.frame.proofs.Bools.{and_both, if_either}
use Rattle.request.specs.declared.label.Target.{Target}
use Rattle.request.specs.declared.label.Family.{Family}
use Rattle.request.specs.declared.table.Task.{Task}
use Rattle.request.specs.declared.table.Task.TheVariants as t
use Rattle.request.specs.declared.label.Params.{Params}
use Rattle.request.specs.declared.label.Call.{Call}
use Rattle.request.specs.declared.label.Call.TheVariants.{Ignored, Off, On, EndOfFrame, Nobody, Inventory, Fault, Do}
use Rattle.request.specs.declared.label.Request.{Request}
use Rattle.label.specs.declared.step.Label.{Label}
use Rattle.label.specs.declared.step.Answer.{Answer}
use Rattle.label.specs.declared.step.Answer.TheVariants as a
use Rattle.label.specs.declared.step.Work.TheVariants as w
use Rattle.label.specs.declared.step.Stepped.{Stepped}
use Rattle.request.specs.Table.{row_of}
use Rattle.request.proofs.LabelSound.{Sound}
use Rattle.label.specs.Step.{with_state, with_slot, with_afi, with_dsfid, with_locks, ended, told, silent, done}
use Rattle.label.specs.Step.{field_off, field_on, passes, ready, heeds, turn, opens, inventory, end_of_frame, acts, passed, asked, faulted}
use Rattle.label.specs.Step.{several, read_block, read_blocks, read_locks, write_block, lock_block, write_afi, lock_afi, write_dsfid, lock_dsfid}
use Rattle.label.specs.Step.{perform, awake, called, act}
use Rattle.label_body.specs.Locks.{lock_on}
use Rattle.label_body.specs.Body.{named}

-- found or silent
abbrev pub turned : Bool → Answer
turned true = a.Found
turned false = a.Silent

-- an answer that leaves the label be: the blocks that it gives are there
unfoldable pub Calm : Answer → Label → Type 0
Calm a.Silent l = Unit
Calm (a.Error code) l = Unit
Calm a.Done l = Unit
Calm a.Found l = Unit
Calm (a.Block n lock) l = n ≤ l.blocks
Calm a.Info l = Unit
Calm (a.Blocks n more) l = n + more ≤ l.blocks
Calm (a.LocksAndBlocks n more) l = n + more ≤ l.blocks
Calm (a.Locks n more) l = n + more ≤ l.blocks

several_calm : (option : Bool) (n more : ℕ) (l : Label) → n + more ≤ l.blocks → Calm (several option n more) l
unfolding Calm
several_calm true n more l h = h
several_calm false n more l h = h

pub data Way (call : Call) (count lock : ℕ) (l : Label) : Stepped → Type 0 where
  stays : Way call count lock l (silent l)
  offs : Way call count lock l (silent (with_state 0 (ended l)))
  wakes : l.state ≡ 0 → Way call count lock l (silent (with_state 1 l))
  moves : (t : Bool) → l.slot < 15 → Way call count lock l (told (turned t) (with_slot (l.slot + 1) l.bits l.mask l))
  starts : (t : Bool) (m e : ℕ) → (Sound call → (m ≤ 60) × (e < 2 ^ m)) → ready l ≡ true → Way call count lock l (told (turned t) (with_slot 0 m e (ended l)))
  says : (x : Answer) → Calm x l → Way call count lock l (told x (ended l))
  hushes : Way call count lock l (silent (with_state 2 (ended l)))
  selects : Way call count lock l (done (with_state 3 (ended l)))
  readies : Way call count lock l (done (with_state 1 (ended l)))
  drops : Way call count lock l (silent (with_state 1 (ended l)))
  writes : (n : ℕ) → ((b : List ℕ) → named call b ≡ lock_on n b) → count ≡ l.size + 1 → n ≤ l.blocks → (lock ≡ 1 → ⊥)
      → Way call count lock l (record { next = ended l; answer = a.Done; work = Some (w.Write n) })
  locks : (n : ℕ) → ((b : List ℕ) → named call b ≡ lock_on n b) → n ≤ l.blocks → (lock ≡ 1 → ⊥)
      → Way call count lock l (record { next = ended l; answer = a.Done; work = Some (w.Lock n) })
  afis : (v : ℕ) → (Sound call → v < 256) → (bit 0 l.locks ≡ 1 → ⊥) → Way call count lock l (done (with_afi v (ended l)))
  dsfids : (v : ℕ) → (Sound call → v < 256) → (bit 1 l.locks ≡ 1 → ⊥) → Way call count lock l (done (with_dsfid v (ended l)))
  afi_locks : (bit 0 l.locks ≡ 1 → ⊥) → Way call count lock l (done (with_locks (l.locks + 1) (ended l)))
  dsfid_locks : (bit 1 l.locks ≡ 1 → ⊥) → Way call count lock l (done (with_locks (l.locks + 2) (ended l)))

module _ (call : Call) (count lock : ℕ) (l : Label) where
  either : (t : Bool) {x y : Stepped} → (t ≡ true → Way call count lock l x) → (t ≡ false → Way call count lock l y)
      → Way call count lock l (if t then x else y)
  either t {x} {y} f g = if_either (Way call count lock l) t x y f g

  awake_way : (s : Stepped) → Way call count lock l s → Way call count lock l (awake s l)
  awake_way s x = either (eqb l.state 0) (λ e. stays) (λ e. x)

  end_way : Way call count lock l (end_of_frame l)
  unfolding end_of_frame turn Calm
  end_way =
      either (ltb l.slot 15)
      (λ e. either (ends_in_slot l.uid l.mask l.bits (l.slot + 1)) (λ x. moves true (ltb-true _ _ e)) (λ x. moves false (ltb-true _ _ e)))
      (λ e. either (eqb l.slot 15) (λ x. says a.Silent tt) (λ x. stays))

module _ (family : Family) (bits mask count lock : ℕ) (l : Label) where
  opens_way : (sixteen : Bool) → ready l ≡ true → Way (Inventory family sixteen bits mask) count lock l (opens sixteen bits mask (ended l))
  unfolding opens turn Calm Sound ended
  opens_way true r =
      either _ count lock l (ends_in_slot l.uid mask bits 0) (λ x. starts true bits mask (λ s. s) r) (λ x. starts false bits mask (λ s. s) r)
  opens_way false r = either _ count lock l (ends_in l.uid mask bits) (λ x. says a.Found tt) (λ x. says a.Silent tt)

  way_inventory : (sixteen : Bool) → Way (Inventory family sixteen bits mask) count lock l (inventory family sixteen bits mask l)
  unfolding inventory heeds Calm
  way_inventory sixteen =
      either _ count lock l (ready l && passes family l.afi)
      (λ y. opens_way sixteen (and_both (ready l) (passes family l.afi) y).0)
      (λ n. says a.Silent tt)

module _ (to : Target) (p : Params) (option : Bool) (count lock : ℕ) (l : Label) where
  performs : (x : Task) → Way (Do to x p option) count lock l (perform x p option count lock (ended l))
  unfolding perform read_block read_blocks read_locks write_block lock_block write_afi lock_afi write_dsfid lock_dsfid Calm Sound named ended
  performs t.Quiet = hushes
  performs t.Read = either _ count lock l (ltb l.blocks p.first) (λ e. says (a.Error 0x10) tt) (λ e. says (a.Block p.first option) (ltb-false _ _ e))
  performs t.Write =
      either _ count lock l (not (eqb count (l.size + 1))) (λ e. says (a.Error 0x02) tt)
      (λ e. either _ count lock l option (λ x. says (a.Error 0x03) tt)
      (λ x. either _ count lock l (ltb l.blocks p.first) (λ y. says (a.Error 0x10) tt)
      (λ y. either _ count lock l (eqb lock 1) (λ z. says (a.Error 0x12) tt)
      (λ z. writes p.first (λ c. refl) (eqb-true _ _ (not-false (eqb count (l.size + 1)) e)) (ltb-false _ _ y) (eqb-false _ _ z)))))
  performs t.Lock =
      either _ count lock l (ltb l.blocks p.first) (λ y. says (a.Error 0x10) tt)
      (λ y. either _ count lock l (eqb lock 1) (λ z. says (a.Error 0x11) tt)
      (λ z. locks p.first (λ c. refl) (ltb-false _ _ y) (eqb-false _ _ z)))
  performs t.ReadMany =
      either _ count lock l (ltb l.blocks (p.first + p.second)) (λ e. says (a.Error 0x10) tt)
      (λ e. says (several option p.first p.second) (several_calm option p.first p.second l (ltb-false _ _ e)))
  performs t.Select = selects
  performs t.Ready = readies
  performs t.WriteAfi = either _ count lock l (set? (bit 0 l.locks)) (λ e. says (a.Error 0x12) tt) (λ e. afis p.first (λ s. s.0) (eqb-false _ _ e))
  performs t.LockAfi = either _ count lock l (set? (bit 0 l.locks)) (λ e. says (a.Error 0x11) tt) (λ e. afi_locks (eqb-false _ _ e))
  performs t.WriteDsfid = either _ count lock l (set? (bit 1 l.locks)) (λ e. says (a.Error 0x12) tt) (λ e. dsfids p.first (λ s. s.0) (eqb-false _ _ e))
  performs t.LockDsfid = either _ count lock l (set? (bit 1 l.locks)) (λ e. says (a.Error 0x11) tt) (λ e. dsfid_locks (eqb-false _ _ e))
  performs t.Info = says a.Info tt
  performs t.Status =
      either _ count lock l (ltb l.blocks (p.first + p.second)) (λ e. says (a.Error 0x10) tt)
      (λ e. says (a.Locks p.first p.second) (ltb-false _ _ e))

  passes_by : (x : Task) → Way (Do to x p option) count lock l (passed x (ended l))
  unfolding passed Calm ended
  passes_by x = either _ count lock l (eqb (row_of x).code 0x25 && eqb l.state 3) (λ e. drops) (λ e. says a.Silent tt)

  way_asked : (uid : List ℕ) (x : Task) → Way (Do to x p option) count lock l (asked to uid x p option count lock l)
  unfolding asked
  way_asked uid x = either _ count lock l (acts to uid l) (λ e. performs x) (λ e. passes_by x)

way_faulted : (to : Target) (uid : List ℕ) (code count lock : ℕ) (l : Label) → Way (Fault to code) count lock l (faulted to uid code l)
unfolding faulted Calm
way_faulted to uid code count lock l = either _ count lock l (acts to uid l) (λ e. says (a.Error code) tt) (λ e. says a.Silent tt)

way_called : (call : Call) (uid : List ℕ) (count lock : ℕ) (l : Label) → Way call count lock l (called call uid count lock l)
unfolding called field_off field_on Calm
way_called Ignored uid count lock l = stays
way_called Off uid count lock l = offs
way_called On uid count lock l = either _ count lock l (eqb l.state 0) (λ e. wakes (eqb-true _ _ e)) (λ e. stays)
way_called EndOfFrame uid count lock l = awake_way _ count lock l _ (end_way _ count lock l)
way_called Nobody uid count lock l = awake_way _ count lock l _ (says a.Silent tt)
way_called (Inventory family sixteen bits mask) uid count lock l = awake_way _ count lock l _ (way_inventory family bits mask count lock l sixteen)
way_called (Fault to code) uid count lock l = awake_way _ count lock l _ (way_faulted to uid code count lock l)
way_called (Do to x p option) uid count lock l = awake_way _ count lock l _ (way_asked to p option count lock l uid x)

pub way : (r : Request) (count lock : ℕ) (l : Label) → Way r.call count lock l (act r count lock l)
unfolding act
way r count lock l = way_called r.call r.uid count lock l
