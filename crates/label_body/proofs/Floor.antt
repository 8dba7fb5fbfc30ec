-- What the hospital's floor asked of a label, over any request: the UID and the numbers stay, what is locked stays, an error changes nothing; and over frames
-- and events: who is quiet or off keeps still, another's Select, a mask of 60 bits. By the ways of the step. Assumes nothing.
use Rattle.std.specs.Prelude.{Option, None, Some}
use Rattle.std.specs.Prelude.{if◌then◌else◌}
use mathlib.Core.Path.{◌≡◌, refl, sym, ap, ◌∙◌}
use mathlib.Core.Logic.{inl, inr, ⊎_elim}
use mathlib.Core.Bool.{Bool, true, false, ◌&&◌, false≢true}
use mathlib.Core.List.{List, ◌∷◌}
use Prim.Native.Nat.{ℕ, suc, ◌+◌, ◌*◌, ◌/◌, ◌%◌, ◌^◌, ◌≤◌, ◌<◌}
use native.Mathlib.Nat.{zero-add, mod-eq_of_lt}
use native.Mathlib.Numerals.{add-one}
use native.Mathlib.Omega.{arith}
use lib.Dec.{eqb}
use lib.ListN.{length, get_or, length-take}
use borrow.Author.Tests.{eqb-true, ne_eqb}
use Rattle.frame.specs.Choose.{bit, set?}
use Rattle.frame.specs.Number.{num, bytes_of, part, Bytes}
use Rattle.frame.specs.CheckSum.{framed}
use Rattle.frame.specs.Ending.{ends_in, ends_in_slot, longer, bytes_for}
use Rattle.frame.proofs.Bools.{and_both, below_or_not, same_or_not, if_either, if_both}
use Rattle.frame.proofs.Ending.{ends_longer}
use Rattle.frame.proofs.Numbers.{num_lt, bytes_part}
use Rattle.frame.proofs.Stores.{sets_off, part_off, part_ext}
use Rattle.request.specs.Label.{flag, bare, decode, heard}
use Rattle.request.specs.Table.{row_of}
use Rattle.request.specs.declared.label.Target.{Target}
use Rattle.request.specs.declared.label.Family.TheVariants.{Any}
use Rattle.request.specs.declared.table.Task.{Task}
use Rattle.request.specs.declared.table.Task.TheVariants as t
use Rattle.request.specs.declared.label.Params.{Params}
use Rattle.request.specs.declared.label.Call.{Call}
use Rattle.request.specs.declared.label.Call.TheVariants.{Ignored, Off, On, EndOfFrame, Nobody, Inventory, Fault, Do}
use Rattle.request.specs.declared.label.Request.{Request}
use Rattle.request.proofs.LabelSound.{flagged_ends, decode_ends}
use Rattle.request.proofs.LabelFramed.{select_back, sixteen_back}
use Rattle.label.specs.declared.step.Label.{Label}
use Rattle.label.specs.declared.step.Answer.{Answer}
use Rattle.label.specs.declared.step.Answer.TheVariants as a
use Rattle.label.specs.declared.step.Work.{Work}
use Rattle.label.specs.declared.step.Work.TheVariants as w
use Rattle.label.specs.declared.step.Stepped.{Stepped}
use Rattle.label.specs.Step.{with_state, with_slot, ended, told, silent, failed, field_off, ready, heeds, turn, inventory, acts, perform, passed, asked}
use Rattle.label.specs.Step.{faulted, awake, called, act}
use Rattle.label_body.specs.Locks.{lock_on}
use Rattle.label_body.specs.Body.{load_of, store_of, worked, stepped, next_label, said_label, named, Sized, blocks_of, size_of, block_at}
use Rattle.label_body.specs.Facts.{LabelFine, WorkFits}
use Rattle.label_body.specs.Slots.{takes_part, clear}
use Rattle.label_body.proofs.LocksLaws.{lock_same, with_length, with_behind, with_own, with_other}
use Rattle.label_body.proofs.BodyRoom.{sized_long, locks_fit, locks_before, block_next, block_after}
use Rattle.label_body.proofs.BodyStored.{stored_between, stored_lock, stored_uid, stored_part, stored_place, stored_sized, stored_dsfid, stored_afi}
use Rattle.label_body.proofs.BodyStored.{stored_locks, stored_state, store_load}
use Rattle.label_body.proofs.BodyWorked.{worked_below, worked_part}
use Rattle.label_body.proofs.StepFits.{step_fits}
use Rattle.label_body.proofs.Slots.{store_ended, next_silent, said_turn, said_silent, end_more, end_none, no_slot, clear_own, said_first}
use Rattle.label_body.proofs.StepWays.{Way, stays, offs, wakes, moves, starts, says, hushes, selects, readies, drops, writes, locks}
use Rattle.label_body.proofs.StepWays.{afis, dsfids, afi_locks, dsfid_locks, way}

-- ---- what no step writes

module _ (r : Request) (bytes b : List ℕ) where
  pub uid_stays : part 0 8 (next_label r bytes b) ≡ part 0 8 b
  unfolding next_label
  uid_stays =
      let s = stepped r (length bytes) b in
      worked_part s.work bytes (store_of b s.next) 0 8 (omega arith) ∙ stored_uid b s.next

  pub numbers_stay : (j : ℕ) → 11 ≤ j → j < 14 → get_or (next_label r bytes b) j 0 ≡ get_or b j 0
  unfolding next_label
  numbers_stay j h g =
      let s = stepped r (length bytes) b in
      worked_below s.work bytes (store_of b s.next) j (omega arith) ∙ stored_between b s.next j h g

-- ---- a locked block, and its lock

-- what the work of a step that is refused for lock byte 1 leaves
unfoldable Spares : ℕ → ℕ → Option Work → List ℕ → Type 0
Spares n count None b = Unit
Spares n count (Some (w.Write m)) b = (m ≡ n → ⊥) × (count ≡ size_of b)
Spares n count (Some (w.Lock m)) b = m ≤ get_or b 11 0

way_spares : {call : Call} {count : ℕ} (n : ℕ) (b : List ℕ) {s : Stepped} → lock_on n b ≡ 1
    → Way call count (named call b) (load_of b) s → Spares n count s.work b
unfolding Spares load_of
way_spares n b e stays = tt
way_spares n b e offs = tt
way_spares n b e (wakes x) = tt
way_spares n b e (moves t x) = tt
way_spares n b e (starts t m c x y) = tt
way_spares n b e (says x y) = tt
way_spares n b e hushes = tt
way_spares n b e selects = tt
way_spares n b e readies = tt
way_spares n b e drops = tt
way_spares n b e (writes m x y z u) = (λ q. u (x b ∙ ap (λ (i : ℕ). lock_on i b) q ∙ e), y)
way_spares n b e (locks m x y z) = y
way_spares n b e (afis v x y) = tt
way_spares n b e (dsfids v x y) = tt
way_spares n b e (afi_locks x) = tt
way_spares n b e (dsfid_locks x) = tt

block_stays : (x : Option Work) (n : ℕ) (bytes b : List ℕ) → n < blocks_of b → Spares n (length bytes) x b
    → part (block_at b n) (size_of b) (worked x bytes b) ≡ part (block_at b n) (size_of b) b
unfolding Spares worked
block_stays None n bytes b h g = refl
block_stays (Some (w.Write m)) n bytes b h g =
    part_off b bytes (block_at b m) (block_at b n) (size_of b)
    (⊎_elim
    (λ (i : m < n). inr (rw g.1 (block_next b m n i)))
    (λ (i : n ≤ m).
    let d : n ≡ m → ⊥ = λ q. g.0 (sym q) in
    let j : n < m = omega arith in
    inl (block_next b n m j))
    (below_or_not m n))
block_stays (Some (w.Lock m)) n bytes b h g =
    part_ext (block_at b n) (size_of b) (worked (Some (w.Lock m)) bytes b) b (with_length m b)
    (λ j l. with_behind m b (block_at b n + j) g (omega (arith, locks_before b n)))

locks_stay : (x : Option Work) (n : ℕ) (bytes b : List ℕ) → Sized b → n < blocks_of b → lock_on n b ≡ 1 → lock_on n (worked x bytes b) ≡ 1
unfolding worked
locks_stay None n bytes b s h e = e
locks_stay (Some (w.Write m)) n bytes b s h e =
    lock_same n b (worked (Some (w.Write m)) bytes b) (omega arith) (λ j l k. sets_off b bytes (block_at b m) j (inl (omega (arith, locks_before b m)))) ∙ e
locks_stay (Some (w.Lock m)) n bytes b s h e =
    ⊎_elim
    (λ (q : m ≡ n). rw q (with_own n b (omega arith) (locks_fit b s)))
    (λ (q : m ≡ n → ⊥). with_other n m b (λ z. q (sym z)) ∙ e)
    (same_or_not m n)

-- the label stored moves neither
spares_stored : (n count : ℕ) (x : Option Work) (b : List ℕ) (l : Label) → Spares n count x b → Spares n count x (store_of b l)
unfolding Spares
spares_stored n count None b l g = tt
spares_stored n count (Some (w.Write m)) b l g = (g.0, rw (stored_between b l 12 (omega arith) (omega arith)) g.1)
spares_stored n count (Some (w.Lock m)) b l g = rw (stored_between b l 11 (omega arith) (omega arith)) g

module _ (r : Request) (bytes b : List ℕ) (n : ℕ) (h : n < blocks_of b) (e : lock_on n b ≡ 1) where
  pub locked_block_stays : part (block_at b n) (size_of b) (next_label r bytes b) ≡ part (block_at b n) (size_of b) b
  unfolding next_label stepped
  locked_block_stays =
      let s = act r (length bytes) (named r.call b) (load_of b) in
      let x = store_of b s.next in
      let g = spares_stored n (length bytes) s.work b s.next (way_spares n b e (way r (length bytes) (named r.call b) (load_of b))) in
      let p : block_at x n ≡ block_at b n = stored_place b s.next n in
      let z : size_of x ≡ size_of b = rw (stored_between b s.next 12 (omega arith) (omega arith)) in
      let i : n < blocks_of x = rw (stored_between b s.next 11 (omega arith) (omega arith)) h in
      let q : part (block_at b n) (size_of b) (worked s.work bytes x) ≡ part (block_at b n) (size_of b) x = rw (p, z) at (block_stays s.work n bytes x i g) in
      q ∙ stored_part b s.next (block_at b n) (size_of b) (omega (arith, block_after b n))

  pub lock_stays : Sized b → lock_on n (next_label r bytes b) ≡ 1
  unfolding next_label
  lock_stays z =
      let s = stepped r (length bytes) b in
      let i : n < blocks_of (store_of b s.next) = rw (stored_between b s.next 11 (omega arith) (omega arith)) h in
      locks_stay s.work n bytes (store_of b s.next) (stored_sized b s.next z) i (stored_lock b s.next n ∙ e)

-- ---- a locked AFI or DSFID, and its lock

more_afi : (k : ℕ) → k / 2 ^ 0 % 2 ≡ 1 → (k + 2) / 2 ^ 0 % 2 ≡ 1
more_afi k h = omega arith

more_dsfid : (k : ℕ) → k / 2 ^ 1 % 2 ≡ 1 → (k / 2 ^ 0 % 2 ≡ 1 → ⊥) → (k + 1) / 2 ^ 1 % 2 ≡ 1
more_dsfid k h n =
    let d : k % 2 ≡ 0 = omega arith in
    let e : (k + 1) / 2 ≡ k / 2 = omega arith in
    ap (λ (x : ℕ). x % 2) e ∙ h

way_afi : {call : Call} {count lock : ℕ} {l : Label} {s : Stepped} → bit 0 l.locks ≡ 1 → Way call count lock l s
    → (s.next.afi ≡ l.afi) × (bit 0 s.next.locks ≡ 1)
unfolding ended
way_afi e stays = (refl, e)
way_afi e offs = (refl, e)
way_afi e (wakes x) = (refl, e)
way_afi e (moves t x) = (refl, e)
way_afi e (starts t m c x y) = (refl, e)
way_afi e (says x y) = (refl, e)
way_afi e hushes = (refl, e)
way_afi e selects = (refl, e)
way_afi e readies = (refl, e)
way_afi e drops = (refl, e)
way_afi e (writes m x y z u) = (refl, e)
way_afi e (locks m x y z) = (refl, e)
way_afi e (afis v x y) = absurd (y e)
way_afi e (dsfids v x y) = (refl, e)
way_afi e (afi_locks x) = absurd (x e)
way_afi {l = l} e (dsfid_locks x) = (refl, more_afi l.locks e)

way_dsfid : {call : Call} {count lock : ℕ} {l : Label} {s : Stepped} → bit 1 l.locks ≡ 1 → Way call count lock l s
    → (s.next.dsfid ≡ l.dsfid) × (bit 1 s.next.locks ≡ 1)
unfolding ended
way_dsfid e stays = (refl, e)
way_dsfid e offs = (refl, e)
way_dsfid e (wakes x) = (refl, e)
way_dsfid e (moves t x) = (refl, e)
way_dsfid e (starts t m c x y) = (refl, e)
way_dsfid e (says x y) = (refl, e)
way_dsfid e hushes = (refl, e)
way_dsfid e selects = (refl, e)
way_dsfid e readies = (refl, e)
way_dsfid e drops = (refl, e)
way_dsfid e (writes m x y z u) = (refl, e)
way_dsfid e (locks m x y z) = (refl, e)
way_dsfid e (afis v x y) = (refl, e)
way_dsfid e (dsfids v x y) = absurd (y e)
way_dsfid {l = l} e (afi_locks x) = (refl, more_dsfid l.locks e x)
way_dsfid e (dsfid_locks x) = absurd (x e)

module _ (r : Request) (bytes b : List ℕ) (long : 25 ≤ length b) where
  low_stays : (j : ℕ) → j < 25 → (v : ℕ) → get_or (store_of b (stepped r (length bytes) b).next) j 0 ≡ v → get_or (next_label r bytes b) j 0 ≡ v
  unfolding next_label
  low_stays j h v e = let s = stepped r (length bytes) b in worked_below s.work bytes (store_of b s.next) j (omega arith) ∙ e

  pub locked_afi_stays : bit 0 (get_or b 10 0) ≡ 1 → (get_or (next_label r bytes b) 9 0 ≡ get_or b 9 0) × (bit 0 (get_or (next_label r bytes b) 10 0) ≡ 1)
  unfolding stepped load_of
  locked_afi_stays e =
      let s = act r (length bytes) (named r.call b) (load_of b) in
      let p = way_afi e (way r (length bytes) (named r.call b) (load_of b)) in
      let q = low_stays 10 (omega arith) s.next.locks (stored_locks b s.next long) in
      (low_stays 9 (omega arith) (get_or b 9 0) (stored_afi b s.next long ∙ p.0), ap (bit 0) q ∙ p.1)

  pub locked_dsfid_stays : bit 1 (get_or b 10 0) ≡ 1 → (get_or (next_label r bytes b) 8 0 ≡ get_or b 8 0) × (bit 1 (get_or (next_label r bytes b) 10 0) ≡ 1)
  unfolding stepped load_of
  locked_dsfid_stays e =
      let s = act r (length bytes) (named r.call b) (load_of b) in
      let p = way_dsfid e (way r (length bytes) (named r.call b) (load_of b)) in
      let q = low_stays 10 (omega arith) s.next.locks (stored_locks b s.next long) in
      (low_stays 8 (omega arith) (get_or b 8 0) (stored_dsfid b s.next long ∙ p.0), ap (bit 1) q ∙ p.1)

-- ---- quiet, another's Select

-- state 2: a frame with the Inventory flag is not answered, and starts no slot, whatever stands in it
quiet_called : (f uid : List ℕ) (n lock : ℕ) (l : Label) → l.state ≡ 2 → set? (flag 2 f) ≡ true → called (decode f).call uid n lock l ≡ silent (ended l)
unfolding called inventory heeds ready
quiet_called f uid n lock l q h =
    flagged_ends (λ (call : Call). called call uid n lock l ≡ silent (ended l)) f (rw q) (λ family sixteen at m. rw q) h

module _ (f b : List ℕ) (q : get_or b 14 0 ≡ 2) (h : set? (flag 2 f) ≡ true) where
  quiet_stepped : (n : ℕ) → stepped (heard 3 f) n b ≡ silent (ended (load_of b))
  unfolding stepped act heard load_of
  quiet_stepped n = quiet_called f (decode f).uid n (named (decode f).call b) (load_of b) q h

  pub quiet_silent : (n : ℕ) → said_label (heard 3 f) n b ≡ a.Silent
  quiet_silent n = said_silent (heard 3 f) n b (ended (load_of b)) (quiet_stepped n)

  pub quiet_still : (bytes : List ℕ) → next_label (heard 3 f) bytes b ≡ clear b
  quiet_still bytes = next_silent (heard 3 f) bytes b (ended (load_of b)) (quiet_stepped (length bytes)) ∙ store_ended b

-- and it is in no slot
quiet_none : (n : ℕ) (b : List ℕ) → LabelFine b → get_or b 14 0 ≡ 2 → stepped (bare EndOfFrame) n b ≡ silent (load_of b)
unfolding stepped act called load_of
quiet_none n b ok q = end_none (load_of b) (no_slot b ok (λ e. omega arith) (λ e. omega arith))

pub quiet_end : (f : List ℕ) (n : ℕ) (b : List ℕ) → LabelFine b → get_or b 14 0 ≡ 2 → said_label (heard 4 f) n b ≡ a.Silent
unfolding heard
quiet_end f n b ok q = said_silent (bare EndOfFrame) n b (load_of b) (quiet_none n b ok q)

-- state 3: Select for another UID readies it, silently
module _ (flags : ℕ) (uid b : List ℕ) (h : flags / 4 ≡ 8) (l : length uid ≡ 8) (q : get_or b 14 0 ≡ 3) (other : num uid ≡ num (part 0 8 b) → ⊥) where
  abbrev selecting : Request
  selecting = heard 3 (framed (flags ∷ 0x25 ∷ uid))

  other_stepped : (n : ℕ) → stepped selecting n b ≡ silent (with_state 1 (ended (load_of b)))
  unfolding stepped act called asked acts passed row_of ended load_of heard
  other_stepped n = rw (select_back flags uid h l, ne_eqb (num uid) (num (part 0 8 b)) other, q)

  pub select_other : (bytes : List ℕ) → 25 ≤ length b → get_or (next_label selecting bytes b) 14 0 ≡ 1
  select_other bytes long =
      ap (λ (x : List ℕ). get_or x 14 0) (next_silent selecting bytes b (with_state 1 (ended (load_of b))) (other_stepped (length bytes)))
      ∙ stored_state b (with_state 1 (ended (load_of b))) long

  pub select_other_silent : (n : ℕ) → said_label selecting n b ≡ a.Silent
  select_other_silent n = said_silent selecting n b (with_state 1 (ended (load_of b))) (other_stepped n)

-- ---- a mask of 60 bits and its slot are the whole UID

ends_true : (u : List ℕ) (mask bits : ℕ) → ends_in u mask bits ≡ true → num u % 2 ^ bits ≡ mask
unfolding ends_in
ends_true u mask bits e = eqb-true (num u % 2 ^ bits) mask e

whole_uid : (u : List ℕ) (mask slot : ℕ) → num u < 2 ^ 64 → mask < 2 ^ 60 → ends_in_slot u mask 60 slot ≡ true → num u ≡ slot * 2 ^ 60 + mask
whole_uid u mask slot h m e = sym (mod-eq_of_lt h) ∙ ends_true u (longer mask 60 slot) 64 (ends_longer u mask 60 slot m ∙ e)

-- one that is found
found_by : (t : Bool) → ((if t then a.Found else a.Silent) ≡ a.Silent → ⊥) → t ≡ true
found_by true h = refl
found_by false h = absurd (h refl)

module _ (b : List ℕ) (bs : Bytes b) (ok : LabelFine b) where
  uid_small : num (part 0 8 b) < 2 ^ 64
  uid_small = num_lt 8 (part 0 8 b) (bytes_part 0 8 b bs) (rw (length-take 8 b) (omega arith))

  module _ (m : get_or b 16 0 ≡ 60) (h : get_or b 15 0 < 15) where
    slot_awake : eqb (get_or b 14 0) 0 ≡ false
    slot_awake = ne_eqb (get_or b 14 0) 0 (λ z. let x = ok.ready (λ y. omega arith) (λ y. omega arith) in omega arith)

    slot_stepped : (n : ℕ) → stepped (bare EndOfFrame) n b ≡ turn (with_slot (get_or b 15 0 + 1) 60 (num (part 17 8 b)) (load_of b))
    unfolding stepped act called load_of
    slot_stepped n = end_more (load_of b) slot_awake h ∙ rw m

    -- at an end of frame
    pub whole_at_end : (f : List ℕ) (n : ℕ) → (said_label (heard 4 f) n b ≡ a.Silent → ⊥)
        → num (part 0 8 b) ≡ suc (get_or b 15 0) * 2 ^ 60 + num (part 17 8 b)
    unfolding heard load_of
    whole_at_end f n z =
        let s = get_or b 15 0 in
        let e = num (part 17 8 b) in
        let low : e < 2 ^ 60 = rw m at ok.mask in
        let said = said_turn (bare EndOfFrame) n b (with_slot (s + 1) 60 e (load_of b)) (slot_stepped n) in
        let t = found_by (ends_in_slot (part 0 8 b) e 60 (s + 1)) (λ x. z (said ∙ x)) in
        whole_uid (part 0 8 b) e (suc s) uid_small low (ap (ends_in_slot (part 0 8 b) e 60) (sym (add-one s)) ∙ t)

  -- at the Inventory itself: slot 0
  pub whole_at_start : (mask n : ℕ) → mask < 2 ^ 60 → (said_label (heard 3 (framed (6 ∷ 1 ∷ 60 ∷ bytes_of 8 mask))) n b ≡ a.Silent → ⊥) → num (part 0 8 b) ≡ mask
  unfolding heard bytes_for
  whole_at_start mask n h z =
      let said = ap (λ (r : Request). said_label r n b) (sixteen_back 60 mask h (omega arith)) ∙ said_first Any 60 mask n b in
      let t = found_by (takes_part Any b && ends_in_slot (part 0 8 b) mask 60 0) (λ x. z (said ∙ x)) in
      whole_uid (part 0 8 b) mask 0 uid_small h (and_both (takes_part Any b) (ends_in_slot (part 0 8 b) mask 60 0) t).1 ∙ zero-add mask

-- ---- errors

abbrev errs : Answer → Bool
errs a.Silent = false
errs (a.Error code) = true
errs a.Done = false
errs a.Found = false
errs (a.Block n lock) = false
errs a.Info = false
errs (a.Blocks n more) = false
errs (a.LocksAndBlocks n more) = false
errs (a.Locks n more) = false

way_error : {call : Call} {count lock : ℕ} {l : Label} {s : Stepped} (code : ℕ) → Way call count lock l s → s.answer ≡ a.Error code
    → s ≡ failed code (ended l)
way_error code stays e = absurd (false≢true (ap errs e))
way_error code offs e = absurd (false≢true (ap errs e))
way_error code (wakes x) e = absurd (false≢true (ap errs e))
way_error code (moves true x) e = absurd (false≢true (ap errs e))
way_error code (moves false x) e = absurd (false≢true (ap errs e))
way_error code (starts true m c x y) e = absurd (false≢true (ap errs e))
way_error code (starts false m c x y) e = absurd (false≢true (ap errs e))
way_error {l = l} code (says x y) e = ap (λ (z : Answer). told z (ended l)) e
way_error code hushes e = absurd (false≢true (ap errs e))
way_error code selects e = absurd (false≢true (ap errs e))
way_error code readies e = absurd (false≢true (ap errs e))
way_error code drops e = absurd (false≢true (ap errs e))
way_error code (writes m x y z u) e = absurd (false≢true (ap errs e))
way_error code (locks m x y z) e = absurd (false≢true (ap errs e))
way_error code (afis v x y) e = absurd (false≢true (ap errs e))
way_error code (dsfids v x y) e = absurd (false≢true (ap errs e))
way_error code (afi_locks x) e = absurd (false≢true (ap errs e))
way_error code (dsfid_locks x) e = absurd (false≢true (ap errs e))

-- document 01, "Labels": whatever the error, the body stays, but for its slot sequence, which every frame ends; a statement, which nothing cites
pub error_stays : (r : Request) (bytes b : List ℕ) (code : ℕ) → said_label r (length bytes) b ≡ a.Error code → next_label r bytes b ≡ clear b
unfolding next_label said_label stepped worked
error_stays r bytes b code e =
    ap (λ (s : Stepped). worked s.work bytes (store_of b s.next))
    (way_error code (way r (length bytes) (named r.call b) (load_of b)) e)
    ∙ store_ended b

-- a frame that is at fault before any label is looked at: one that is selected stays so, whether it answers or not; a statement, which nothing cites
pub fault_stays : (uid : List ℕ) (to : Target) (code : ℕ) (bytes b : List ℕ) → Bytes b → LabelFine b
    → next_label (record { uid = uid; call = Fault to code }) bytes b ≡ clear b
unfolding next_label worked stepped act called faulted load_of
fault_stays uid to code bytes b bs ok =
    let long : 25 ≤ length b = omega (arith, sized_long b ok.sized) in
    if_either Clears (eqb (get_or b 14 0) 0) _ _ (λ e. store_load b bs long ∙ sym (clear_own b bs ok (eqb-true (get_or b 14 0) 0 e)))
    (λ e. if_both Clears (acts to uid (load_of b)) (store_ended b) (store_ended b))
  where
    Clears : Stepped → Type 0
    Clears s = worked s.work bytes (store_of b s.next) ≡ clear b

-- ---- events that leave a label as it is

-- nothing said, and the body unchanged
abbrev pub Ignores : Request → List ℕ → List ℕ → Type 0
Ignores r bytes b = (said_label r (length bytes) b ≡ a.Silent) × (next_label r bytes b ≡ b)

module _ (bytes b : List ℕ) (bs : Bytes b) (long : 25 ≤ length b) where
  by_step : (r : Request) → stepped r (length bytes) b ≡ silent (load_of b) → Ignores r bytes b
  by_step r e = (said_silent r (length bytes) b (load_of b) e, next_silent r bytes b (load_of b) e ∙ store_load b bs long)

  unasked : Ignores (bare Ignored) bytes b
  unfolding stepped act called
  unasked = by_step (bare Ignored) refl

  -- document 01, "Events": labels ignore 5; a statement, which nothing cites
  pub ignores_5 : (f : List ℕ) → Ignores (heard 5 f) bytes b
  unfolding heard
  ignores_5 f = unasked

-- state 0: no frame is heard
off_called : (f uid : List ℕ) (n lock : ℕ) (l : Label) → eqb l.state 0 ≡ true → called (decode f).call uid n lock l ≡ silent l
unfolding called
off_called f uid n lock l q =
    decode_ends (λ (call : Call). called call uid n lock l ≡ silent l) f (rw q) (λ family sixteen at h. rw q) (λ to code. rw q)
    (λ to task at option. rw q) (λ to task at option. rw q)

-- document 01, "Events": tags in state 0 ignore everything but field on; a statement, which nothing cites
module _ (bytes b : List ℕ) (bs : Bytes b) (ok : LabelFine b) (q : get_or b 14 0 ≡ 0) where
  big : 25 ≤ length b
  big = omega (arith, sized_long b ok.sized)

  asleep : eqb (load_of b).state 0 ≡ true
  unfolding load_of
  asleep = rw q

  -- field off finds it as it leaves it
  off_stepped : stepped (bare Off) (length bytes) b ≡ silent (ended (load_of b))
  unfolding stepped act called field_off ended load_of
  off_stepped = rw q

  off_again : Ignores (bare Off) bytes b
  off_again = (
    said_silent (bare Off) (length bytes) b (ended (load_of b)) off_stepped,
    next_silent (bare Off) bytes b (ended (load_of b)) off_stepped ∙ store_ended b ∙ clear_own b bs ok q,
  )

  off_frame : (f : List ℕ) → Ignores (decode f) bytes b
  unfolding stepped act
  off_frame f = by_step bytes b bs big (decode f) (off_called f (decode f).uid (length bytes) (named (decode f).call b) (load_of b) asleep)

  off_end : Ignores (bare EndOfFrame) bytes b
  unfolding stepped act called
  off_end = by_step bytes b bs big (bare EndOfFrame) (rw asleep)

  pub off_ignores : (number : ℕ) (f : List ℕ) → (number ≡ 2 → ⊥) → Ignores (heard number f) bytes b
  unfolding heard
  off_ignores number f n =
      let P : Request → Type 0 = λ r. Ignores r bytes b in
      if_both P (eqb number 1) off_again
      (if_either P (eqb number 2) _ _ (λ e. absurd (n (eqb-true number 2 e)))
      (λ e. if_both P (eqb number 3) (off_frame f) (if_both P (eqb number 4) off_end (unasked bytes b bs big))))

-- ---- bytes sent matter to a write alone

abbrev Unwriting : Call → Type 0
Unwriting call = (to : Target) (p : Params) (option : Bool) → call ≡ Do to t.Write p option → ⊥

task_count : (task : Task) (to : Target) (uid : List ℕ) (p : Params) (option : Bool) (n m lock : ℕ) (l : Label) → Unwriting (Do to task p option)
    → asked to uid task p option n lock l ≡ asked to uid task p option m lock l
unfolding asked perform
task_count t.Quiet to uid p option n m lock l z = refl
task_count t.Read to uid p option n m lock l z = refl
task_count t.Write to uid p option n m lock l z = absurd (z to p option refl)
task_count t.Lock to uid p option n m lock l z = refl
task_count t.ReadMany to uid p option n m lock l z = refl
task_count t.Select to uid p option n m lock l z = refl
task_count t.Ready to uid p option n m lock l z = refl
task_count t.WriteAfi to uid p option n m lock l z = refl
task_count t.LockAfi to uid p option n m lock l z = refl
task_count t.WriteDsfid to uid p option n m lock l z = refl
task_count t.LockDsfid to uid p option n m lock l z = refl
task_count t.Info to uid p option n m lock l z = refl
task_count t.Status to uid p option n m lock l z = refl

call_count : (call : Call) (uid : List ℕ) (n m lock : ℕ) (l : Label) → Unwriting call → called call uid n lock l ≡ called call uid m lock l
unfolding called
call_count Ignored uid n m lock l z = refl
call_count Off uid n m lock l z = refl
call_count On uid n m lock l z = refl
call_count EndOfFrame uid n m lock l z = refl
call_count (Inventory family sixteen bits mask) uid n m lock l z = refl
call_count Nobody uid n m lock l z = refl
call_count (Fault to code) uid n m lock l z = refl
call_count (Do to task p option) uid n m lock l z = ap (λ (s : Stepped). awake s l) (task_count task to uid p option n m lock l z)

-- a work that does not fit a write of so many bytes is none
unwritten : (x : Option Work) (count : ℕ) (b : List ℕ) → (count ≡ size_of b → ⊥) → WorkFits x count b → (bytes bytes₂ y : List ℕ) → worked x bytes y ≡ worked x bytes₂ y
unfolding WorkFits worked
unwritten None count b h g bytes bytes₂ y = refl
unwritten (Some (w.Write n)) count b h g bytes bytes₂ y = absurd (h g.1)
unwritten (Some (w.Lock n)) count b h g bytes bytes₂ y = refl

module _ (r : Request) (b : List ℕ) (z : (to : Target) (p : Params) (option : Bool) → r.call ≡ Do to t.Write p option → ⊥) where
  uncounted : (n m : ℕ) → stepped r n b ≡ stepped r m b
  unfolding stepped act
  uncounted n m = call_count r.call r.uid n m (named r.call b) (load_of b) z

  pub unsent_said : (n m : ℕ) → said_label r n b ≡ said_label r m b
  unfolding said_label
  unsent_said n m = ap (λ (s : Stepped). s.answer) (uncounted n m)

  pub unsent_next : (bytes bytes₂ : List ℕ) → next_label r bytes b ≡ next_label r bytes₂ b
  unfolding next_label
  unsent_next bytes bytes₂ =
      let x = store_of b (load_of b) in
      let n = size_of x + 1 in
      let s = stepped r n b in
      ap (λ (t : Stepped). worked t.work bytes (store_of b t.next)) (uncounted (length bytes) n)
      ∙ unwritten s.work n x (λ e. omega arith) (step_fits r n b (load_of b)) bytes bytes₂ (store_of b s.next)
      ∙ ap (λ (t : Stepped). worked t.work bytes₂ (store_of b t.next)) (uncounted n (length bytes₂))
