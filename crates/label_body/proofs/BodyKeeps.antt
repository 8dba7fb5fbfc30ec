-- A step keeps a body's length and its rules: a label that keeps its own rules goes on keeping them, by the ways of the step, and so do the bytes behind it.
-- Assumes nothing.
use Rattle.std.specs.Prelude.{Option}
use mathlib.Core.Path.{◌≡◌, refl, ◌∙◌}
use mathlib.Core.Logic.{⊎_elim}
use mathlib.Core.Bool.{true}
use mathlib.Core.List.{List}
use Prim.Native.Nat.{ℕ, ◌+◌, ◌/◌, ◌%◌, ◌^◌, ◌≤◌, ◌<◌}
use native.Mathlib.Nat.{lt_of_lt_of_le}
use native.Mathlib.Omega.{arith}
use lib.ListN.{length}
use lib.Pow.{pow_mono}
use borrow.Author.Tests.{eqb-true, ne_eqb}
use Rattle.frame.specs.Number.{Bytes}
use Rattle.frame.proofs.Bools.{same_or_not}
use Rattle.request.specs.declared.label.Call.{Call}
use Rattle.request.specs.declared.label.Request.{Request}
use Rattle.label.specs.declared.step.Label.{Label}
use Rattle.label.specs.declared.step.Work.{Work}
use Rattle.label.specs.declared.step.Stepped.{Stepped}
use Rattle.request.proofs.LabelSound.{Sound}
use Rattle.label.specs.Step.{label, with_slot, ended, ready}
use Rattle.label_body.specs.Body.{load_of, store_of, worked, stepped, next_label, named}
use Rattle.label_body.specs.Facts.{WorkFits}
use Rattle.label_body.specs.Facts.{LabelFine}
use Rattle.label_body.proofs.BodyRoom.{sized_long}
use Rattle.label_body.proofs.LocksLaws.{fine_same}
use Rattle.label_body.proofs.StepFits.{step_fits}
use Rattle.label_body.proofs.BodyStored.{stored_length, stored_between, stored_above, stored_sized, stored_locks, stored_state, stored_slot}
use Rattle.label_body.proofs.BodyStored.{stored_bits, stored_mask, stored_all}
use Rattle.label_body.proofs.BodyWorked.{worked_length, worked_below, worked_part, worked_sized, worked_locks, worked_bytes}
use Rattle.label_body.proofs.StepWays.{Way, stays, offs, wakes, moves, starts, says, hushes, selects, readies, drops, writes, locks}
use Rattle.label_body.proofs.StepWays.{afis, dsfids, afi_locks, dsfid_locks, way}

pub next_length : (r : Request) (bytes b : List ℕ) → length (next_label r bytes b) ≡ length b
unfolding next_label
next_length r bytes b =
    let s = stepped r (length bytes) b in
    worked_length s.work bytes (store_of b s.next) ∙ stored_length b s.next

-- ---- a label's own rules

pub record Proper (l : Label) : Type 0 where
  pub dsfid : l.dsfid < 256
  pub afi : l.afi < 256
  pub locks : l.locks ≤ 3
  pub state : l.state ≤ 3
  pub slot : (l.slot ≡ 255 → ⊥) → l.slot ≤ 15
  pub ready : (l.slot ≡ 255 → ⊥) → (l.state ≡ 1 → ⊥) → l.state ≡ 3
  pub idle : l.slot ≡ 255 → l.bits ≡ 0
  pub bits : l.bits ≤ 60
  pub mask : l.mask < 2 ^ l.bits

-- with no slot sequence
pub proper_idle : (l : Label) (d f k s : ℕ) → d < 256 → f < 256 → k ≤ 3 → s ≤ 3 → Proper (label d f k s 255 0 0 l)
proper_idle l d f k s hd hf hk hs =
    record {
      dsfid = hd;
      afi = hf;
      locks = hk;
      state = hs;
      slot = λ n. absurd (n refl);
      ready = λ n m. absurd (n refl);
      idle = λ e. refl;
      bits = omega arith;
      mask = omega arith;
    }

either_ready : (l : Label) → ready l ≡ true → (l.state ≡ 1 → ⊥) → l.state ≡ 3
unfolding ready
either_ready l h n = eqb-true l.state 3 (rw (ne_eqb l.state 1 n) at h)

-- in slot s
pub proper_slot : (l : Label) (s m e : ℕ) → Proper l → ready l ≡ true → s ≤ 15 → m ≤ 60 → e < 2 ^ m → Proper (with_slot s m e l)
proper_slot l s m e p r hs hm he =
    record {
      dsfid = p.dsfid;
      afi = p.afi;
      locks = p.locks;
      state = p.state;
      slot = λ n. hs;
      ready = λ n. either_ready l r;
      idle = λ i. absurd (omega arith);
      bits = hm;
      mask = he;
    }

way_proper : {call : Call} {count lock : ℕ} {l : Label} {s : Stepped} → Proper l → Sound call → Way call count lock l s → Proper s.next
unfolding ended
way_proper {l = l} p h stays = p
way_proper {l = l} p h offs = proper_idle l l.dsfid l.afi l.locks 0 p.dsfid p.afi p.locks (omega arith)
way_proper {l = l} p h (wakes e) =
    record {
      dsfid = p.dsfid;
      afi = p.afi;
      locks = p.locks;
      state = omega arith;
      slot = p.slot;
      ready = λ n m. absurd (m refl);
      idle = p.idle;
      bits = p.bits;
      mask = p.mask;
    }
way_proper {l = l} p h (moves t i) =
    record {
      dsfid = p.dsfid;
      afi = p.afi;
      locks = p.locks;
      state = p.state;
      slot = λ n. omega arith;
      ready = λ n. p.ready (λ z. omega arith);
      idle = λ z. absurd (omega arith);
      bits = p.bits;
      mask = p.mask;
    }
way_proper {l = l} p h (starts t m e x y) =
    record {
      dsfid = p.dsfid;
      afi = p.afi;
      locks = p.locks;
      state = p.state;
      slot = λ n. omega arith;
      ready = λ n. either_ready l y;
      idle = λ z. absurd (omega arith);
      bits = (x h).0;
      mask = (x h).1;
    }
way_proper {l = l} p h (says x y) = proper_idle l l.dsfid l.afi l.locks l.state p.dsfid p.afi p.locks p.state
way_proper {l = l} p h hushes = proper_idle l l.dsfid l.afi l.locks 2 p.dsfid p.afi p.locks (omega arith)
way_proper {l = l} p h selects = proper_idle l l.dsfid l.afi l.locks 3 p.dsfid p.afi p.locks (omega arith)
way_proper {l = l} p h readies = proper_idle l l.dsfid l.afi l.locks 1 p.dsfid p.afi p.locks (omega arith)
way_proper {l = l} p h drops = proper_idle l l.dsfid l.afi l.locks 1 p.dsfid p.afi p.locks (omega arith)
way_proper {l = l} p h (writes n x y z u) = proper_idle l l.dsfid l.afi l.locks l.state p.dsfid p.afi p.locks p.state
way_proper {l = l} p h (locks n x y z) = proper_idle l l.dsfid l.afi l.locks l.state p.dsfid p.afi p.locks p.state
way_proper {l = l} p h (afis v x y) = proper_idle l l.dsfid v l.locks l.state p.dsfid (x h) p.locks p.state
way_proper {l = l} p h (dsfids v x y) = proper_idle l v l.afi l.locks l.state (x h) p.afi p.locks p.state
way_proper {l = l} p h (afi_locks x) =
    proper_idle l l.dsfid l.afi (l.locks + 1) l.state p.dsfid p.afi (one_more l.locks p.locks x) p.state
  where
    one_more : (k : ℕ) → k ≤ 3 → (k / 2 ^ 0 % 2 ≡ 1 → ⊥) → k + 1 ≤ 3
    one_more k g n = omega arith
way_proper {l = l} p h (dsfid_locks x) =
    proper_idle l l.dsfid l.afi (l.locks + 2) l.state p.dsfid p.afi (two-more l.locks p.locks x) p.state
  where
    two-more : (k : ℕ) → k ≤ 3 → (k / 2 ^ 1 % 2 ≡ 1 → ⊥) → k + 2 ≤ 3
    two-more k g n = omega arith

-- ---- a body's rules are its label's, and those of the bytes behind

pub load_proper : (b : List ℕ) → Bytes b → LabelFine b → Proper (load_of b)
unfolding load_of
load_proper b f ok =
    record {
      dsfid = f 8;
      afi = f 9;
      locks = ok.locks;
      state = ok.state;
      slot = ok.slot;
      ready = ok.ready;
      idle = ok.idle;
      bits = ok.bits;
      mask = ok.mask;
    }

-- a mask of at most 60 bits fits eight bytes
pub mask_fits : (m e : ℕ) → m ≤ 60 → e < 2 ^ m → e < 256 ^ 8
mask_fits m e h g = lt_of_lt_of_le g (pow_mono {j = 64} (omega arith))

module _ (b : List ℕ) (l : Label) (ok : LabelFine b) (p : Proper l) where
  pub stored_fine : LabelFine (store_of b l)
  stored_fine =
      let long : 25 ≤ length b = omega (arith, sized_long b ok.sized) in
      record {
        locks = rw (stored_locks b l long) p.locks;
        sized = stored_sized b l ok.sized;
        size = rw (stored_between b l 12 (omega arith) (omega arith)) ok.size;
        state = rw (stored_state b l long) p.state;
        slot = rw (stored_slot b l long) p.slot;
        ready = rw (stored_slot b l long, stored_state b l long) p.ready;
        idle = rw (stored_slot b l long, stored_bits b l long) p.idle;
        bits = rw (stored_bits b l long) p.bits;
        mask = rw (stored_bits b l long, stored_mask b l long (mask_fits l.bits l.mask p.bits p.mask)) p.mask;
        zeros = λ j h. rw (stored_above b l (25 + j) (omega arith)) (ok.zeros j h);
        locked = fine_same b (store_of b l) (stored_between b l 11 (omega arith) (omega arith)) (λ j h g. stored_above b l j (omega arith)) ok.locked;
      }

slot_small : (l : Label) → Proper l → l.slot < 256
slot_small l p =
    ⊎_elim (λ (e : l.slot ≡ 255). omega arith) (λ (e : l.slot ≡ 255 → ⊥). omega (arith, p.slot e)) (same_or_not l.slot 255)

pub stored_small : (b : List ℕ) (l : Label) → Bytes b → Proper l → Bytes (store_of b l)
stored_small b l f p = stored_all b l f p.dsfid p.afi (omega arith) (omega arith) (slot_small l p) (omega arith)

module _ (x : Option Work) (bytes b : List ℕ) (s : Bytes b) (fit : WorkFits x (length bytes) b) (ok : LabelFine b) where
  pub worked_fine : LabelFine (worked x bytes b)
  worked_fine =
      let e15 = worked_below x bytes b 15 (omega arith) in
      let e16 = worked_below x bytes b 16 (omega arith) in
      let e14 = worked_below x bytes b 14 (omega arith) in
      record {
        locks = rw (worked_below x bytes b 10 (omega arith)) ok.locks;
        sized = worked_sized x bytes b ok.sized;
        size = rw (worked_below x bytes b 12 (omega arith)) ok.size;
        state = rw e14 ok.state;
        slot = rw e15 ok.slot;
        ready = rw (e15, e14) ok.ready;
        idle = rw (e15, e16) ok.idle;
        bits = rw e16 ok.bits;
        mask = rw (e16, worked_part x bytes b 17 8 (omega arith)) ok.mask;
        zeros = λ j h. rw (worked_below x bytes b (25 + j) (omega arith)) (ok.zeros j h);
        locked = worked_locks x bytes b s fit ok.locked;
      }

-- ---- the step

module _ (r : Request) (bytes b : List ℕ) (f : Bytes b) (ok : LabelFine b) (h : Sound r.call) where
  next_proper : Proper (stepped r (length bytes) b).next
  unfolding stepped
  next_proper = way_proper (load_proper b f ok) h (way r (length bytes) (named r.call b) (load_of b))

  pub next_keeps : LabelFine (next_label r bytes b)
  unfolding next_label
  next_keeps =
      let s = stepped r (length bytes) b in
      worked_fine s.work bytes (store_of b s.next) (stored_small b s.next f next_proper) (step_fits r (length bytes) b s.next)
      (stored_fine b s.next ok next_proper)

pub next_bytes : (r : Request) (bytes b : List ℕ) → Bytes b → Bytes bytes → LabelFine b → Sound r.call → Bytes (next_label r bytes b)
unfolding next_label
next_bytes r bytes b f g ok h =
    let s = stepped r (length bytes) b in
    worked_bytes s.work bytes (store_of b s.next) g (stored_small b s.next f (next_proper r bytes b f ok h))
