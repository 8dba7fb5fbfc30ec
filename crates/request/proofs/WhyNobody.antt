-- The ways out of the functions that say why no tag acts on a frame; and that this is no second opinion: a frame has nothing wrong exactly where the
-- decoding leaves something to act on. Assumes nothing.
use Rattle.std.specs.Prelude.{if◌then◌else◌}
use mathlib.Core.Path.{◌≡◌, refl, sym, ap, ◌∙◌}
use mathlib.Core.Bool.{Bool, true, false, not, ◌&&◌, ◌||◌, false≢true}
use mathlib.Core.List.{List}
use Prim.Native.Nat.{ℕ, ◌+◌, ◌/◌, ◌%◌, ◌≤◌, ◌<◌}
use native.Mathlib.Omega.{arith}
use lib.Dec.{eqb, ltb}
use lib.ListN.{length, get_or}
use borrow.Author.Tests.{lt-ltb, le-ltb, ltb-true, eq-eqb, ne_eqb}
use Rattle.frame.specs.Choose.{bit, set?}
use Rattle.frame.specs.CheckSum.{right}
use Rattle.frame.specs.Ending.{bytes_for}
use Rattle.frame.proofs.Bools.{if_both, if_either}
use Rattle.request.specs.declared.label.Call.{Call}
use Rattle.request.specs.declared.label.Call.TheVariants.{Ignored, Off, On, EndOfFrame, Nobody, Inventory, Fault, Do}
use Rattle.request.specs.declared.label.Family.{Family}
use Rattle.request.specs.declared.label.Family.TheVariants.{Any, Only}
use Rattle.request.specs.declared.label.Request.{Request}
use Rattle.request.specs.declared.chip.Order.{Order}
use Rattle.request.specs.declared.chip.Order.TheVariants as o
use Rattle.request.specs.declared.why.Why.{Why}
use Rattle.request.specs.declared.why.Why.TheVariants as w
use Rattle.request.specs.declared.why.WhyChip.{WhyChip}
use Rattle.request.specs.declared.why.WhyChip.TheVariants as wc
use Rattle.request.specs.Label.{flag, nobody, most, masked, inventory, addressed, addressing, decode}
use Rattle.request.specs.Chip as chips
use Rattle.request.specs.Why.{is_nobody, is_ignored, why_masked, why_inventory, why_task, why_right, why_of, why_ignored}

-- ---- ways out

module _ (f : List ℕ) (l : 4 ≤ length f) (b3 : get_or f 0 0 / 8 % 2 ≡ 1 → ⊥) (b7 : get_or f 0 0 / 128 % 2 ≡ 1 → ⊥) {t : Bool} (e : t ≡ right f) where
  pub why_wrong : t ≡ false → w.Sum ≡ why_of f
  unfolding why_of
  why_wrong h = rw (le-ltb _ _ l, ne_eqb _ _ b3, ne_eqb _ _ b7, ← e, h)

  pub why_framed : t ≡ true → {q : Request} → q ≡ decode f → {b : Bool} → b ≡ is_nobody q.call → {x : Why} → x ≡ why_right f (get_or f 0 0) b → x ≡ why_of f
  unfolding why_of
  why_framed h p z y = rw (le-ltb _ _ l, ne_eqb _ _ b3, ne_eqb _ _ b7, ← e, h, ← p, ← z) y

module _ (f : List ℕ) (l : 3 ≤ length f) {t : Bool} (e : t ≡ right f) where
  pub chip_wrong : not t ≡ true → wc.Sum ≡ why_ignored f
  unfolding why_ignored
  chip_wrong h = rw (le-ltb _ _ l, ← e, h)

  module _ (h : not t ≡ false) {q : Order} (p : q ≡ chips.decode f) {b : Bool} (z : b ≡ is_ignored q) where
    pub chip_unknown : b ≡ true → wc.Unknown ≡ why_ignored f
    unfolding why_ignored
    chip_unknown y = rw (le-ltb _ _ l, ← e, h, ← p, ← z, y)

    pub chip_heard : b ≡ false → wc.Heard ≡ why_ignored f
    unfolding why_ignored
    chip_heard y = rw (le-ltb _ _ l, ← e, h, ← p, ← z, y)

module _ (sixteen : Bool) (at : ℕ) (f : List ℕ) {n : ℕ} (e : n ≡ most sixteen) where
  pub mask_long : n < get_or f at 0 → w.LongMask ≡ why_masked sixteen at f
  unfolding why_masked
  mask_long h = rw (← e, lt-ltb _ _ h)

  pub mask_misfit : get_or f at 0 ≤ n → (length f ≡ at + 3 + (get_or f at 0 + 7) / 8 → ⊥) → w.OtherLength ≡ why_masked sixteen at f
  unfolding why_masked bytes_for
  mask_misfit h z = rw (← e, le-ltb _ _ h, ne_eqb _ _ z)

  pub mask_fits : get_or f at 0 ≤ n → length f ≡ at + 3 + (get_or f at 0 + 7) / 8 → w.Acts ≡ why_masked sixteen at f
  unfolding why_masked bytes_for
  mask_fits h z = rw (← e, le-ltb _ _ h, eq-eqb _ _ z)

-- ---- labels: nothing is wrong exactly where the decoding leaves something

abbrev is_acts : Why → Bool
is_acts w.Acts = true
is_acts w.Short = false
is_acts w.Bit3 = false
is_acts w.Bit7 = false
is_acts w.Sum = false
is_acts w.OtherCommand = false
is_acts w.InventoryOption = false
is_acts w.LongMask = false
is_acts w.OtherLength = false
is_acts w.BothBits = false
is_acts w.ShortForUid = false
is_acts w.Unflagged = false
is_acts w.WantsUid = false
is_acts w.QuietFault = false

abbrev Agree : Why → Request → Type 0
Agree y r = is_acts y ≡ not (is_nobody r.call)

both_if : {A B : Type 0} (R : A → B → Type 0) (t : Bool) {x y : A} {q r : B} → R x q → R y r → R (if t then x else y) (if t then q else r)
both_if R true f g = f
both_if R false f g = g

mask_agree : (family : Family) (sixteen : Bool) (at : ℕ) (f : List ℕ) → Agree (why_masked sixteen at f) (masked family sixteen at f)
unfolding why_masked masked nobody
mask_agree family sixteen at f =
    both_if Agree (ltb (most sixteen) (get_or f at 0)) refl (both_if Agree (not (eqb (length f) (at + 3 + bytes_for (get_or f at 0)))) refl refl)

inventory_agree : (f : List ℕ) → Agree (why_inventory f) (inventory f)
unfolding why_inventory inventory nobody
inventory_agree f =
    both_if Agree (not (eqb (get_or f 1 0) 1)) refl
    (both_if Agree (set? (flag 6 f)) refl
    (both_if Agree (set? (flag 4 f)) (mask_agree (Only (get_or f 2 0)) (eqb (flag 5 f) 0) 3 f) (mask_agree Any (eqb (flag 5 f) 0) 2 f)))

task_agree : (c : ℕ) (address b : Bool) → is_acts (why_task c address b) ≡ not b
unfolding why_task
task_agree c address false = refl
task_agree c address true = if_both (λ y. is_acts y ≡ false) (eqb c 1) refl (if_both (λ y. is_acts y ≡ false) address refl refl)

-- the rungs of `why_right` and of `addressing`, by their tests
bits_agree : (b2 b5 b4 short : Bool) (c : ℕ) (y : Why) (q a u : Request) → Agree y q
    → let r : Request = if b2 then q else if b5 && b4 then nobody else if b5 then (if short then nobody else a) else u in
    Agree
    (if b2 then y else if b5 then (if b4 then w.BothBits else if short then w.ShortForUid else why_task c true (is_nobody r.call))
    else why_task c false (is_nobody r.call))
    r
unfolding nobody
bits_agree true b5 b4 short c y q a u h = h
bits_agree false true true short c y q a u h = refl
bits_agree false true false true c y q a u h = refl
bits_agree false true false false c y q a u h = task_agree c true (is_nobody a.call)
bits_agree false false true short c y q a u h = task_agree c false (is_nobody u.call)
bits_agree false false false short c y q a u h = task_agree c false (is_nobody u.call)

right_agree : (f : List ℕ) (flags : ℕ) → Agree (why_right f flags (is_nobody (addressing f flags).call)) (addressing f flags)
unfolding why_right addressing addressed
right_agree f flags = bits_agree (set? (bit 2 flags)) (set? (bit 5 flags)) (set? (bit 4 flags)) (ltb (length f) 12) (get_or f 1 0) _ _ _ _ (inventory_agree f)

-- the rungs of `why_of` and of `decode`
head_agree : (short b3 b7 wrong : Bool) (y : Bool → Why) (q : Request) → Agree (y (is_nobody q.call)) q
    → let r : Request = if short then nobody else if b3 || b7 then nobody else if wrong then nobody else q in
    Agree (if short then w.Short else if b3 then w.Bit3 else if b7 then w.Bit7 else if wrong then w.Sum else y (is_nobody r.call)) r
unfolding nobody
head_agree true b3 b7 wrong y q h = refl
head_agree false true b7 wrong y q h = refl
head_agree false false true wrong y q h = refl
head_agree false false false true y q h = refl
head_agree false false false false y q h = h

why_agree : (f : List ℕ) → Agree (why_of f) (decode f)
unfolding why_of decode
why_agree f =
    head_agree (ltb (length f) 4) (set? (flag 3 f)) (set? (flag 7 f)) (not (right f)) (why_right f (get_or f 0 0)) (addressing f (get_or f 0 0))
    (right_agree f (get_or f 0 0))

acts_true : (y : Why) → is_acts y ≡ true → y ≡ w.Acts
acts_true w.Acts e = refl
acts_true w.Short e = absurd (false≢true e)
acts_true w.Bit3 e = absurd (false≢true e)
acts_true w.Bit7 e = absurd (false≢true e)
acts_true w.Sum e = absurd (false≢true e)
acts_true w.OtherCommand e = absurd (false≢true e)
acts_true w.InventoryOption e = absurd (false≢true e)
acts_true w.LongMask e = absurd (false≢true e)
acts_true w.OtherLength e = absurd (false≢true e)
acts_true w.BothBits e = absurd (false≢true e)
acts_true w.ShortForUid e = absurd (false≢true e)
acts_true w.Unflagged e = absurd (false≢true e)
acts_true w.WantsUid e = absurd (false≢true e)
acts_true w.QuietFault e = absurd (false≢true e)

not_nobody : (c : Call) → (c ≡ Nobody → ⊥) → is_nobody c ≡ false
not_nobody Ignored h = refl
not_nobody Off h = refl
not_nobody On h = refl
not_nobody EndOfFrame h = refl
not_nobody Nobody h = absurd (h refl)
not_nobody (Inventory family sixteen bits mask) h = refl
not_nobody (Fault to code) h = refl
not_nobody (Do to task p option) h = refl

pub acts_heard : (f : List ℕ) → why_of f ≡ w.Acts → (decode f).call ≡ Nobody → ⊥
acts_heard f e h = false≢true (sym (ap (λ c. not (is_nobody c)) h) ∙ sym (why_agree f) ∙ ap is_acts e)

pub heard_acts : (f : List ℕ) → ((decode f).call ≡ Nobody → ⊥) → why_of f ≡ w.Acts
heard_acts f h = acts_true (why_of f) (why_agree f ∙ ap not (not_nobody (decode f).call h))

-- ---- chips: the same

abbrev is_heard : WhyChip → Bool
is_heard wc.Heard = true
is_heard wc.Short = false
is_heard wc.Sum = false
is_heard wc.Unknown = false

short_wrong : (f : List ℕ) → length f < 3 → chips.decode f ≡ o.Ignored
unfolding chips.decode
short_wrong f h =
    if_both (λ x. x ≡ o.Ignored) (not (right f)) refl
    (rw (ne_eqb (length f) 3 (λ e. omega arith), ne_eqb (length f) 4 (λ e. omega arith), ne_eqb (length f) 8 (λ e. omega arith)) refl)

sum_wrong : (f : List ℕ) → not (right f) ≡ true → chips.decode f ≡ o.Ignored
unfolding chips.decode
sum_wrong f g = rw g refl

chip_agree : (f : List ℕ) → is_heard (why_ignored f) ≡ not (is_ignored (chips.decode f))
unfolding why_ignored
chip_agree f =
    if_either (λ x. is_heard x ≡ not (is_ignored (chips.decode f))) (ltb (length f) 3) _ _
    (λ e. ap (λ x. not (is_ignored x)) (sym (short_wrong f (ltb-true _ _ e))))
    (λ e. if_either (λ x. is_heard x ≡ not (is_ignored (chips.decode f))) (not (right f)) _ _
    (λ g. ap (λ x. not (is_ignored x)) (sym (sum_wrong f g)))
    (λ g. last (is_ignored (chips.decode f))))
  where
    last : (t : Bool) → is_heard (if t then wc.Unknown else wc.Heard) ≡ not t
    last true = refl
    last false = refl

heard_true : (y : WhyChip) → is_heard y ≡ true → y ≡ wc.Heard
heard_true wc.Heard e = refl
heard_true wc.Short e = absurd (false≢true e)
heard_true wc.Sum e = absurd (false≢true e)
heard_true wc.Unknown e = absurd (false≢true e)

not_ignored : (x : Order) → (x ≡ o.Ignored → ⊥) → is_ignored x ≡ false
not_ignored o.Ignored h = absurd (h refl)
not_ignored o.Off h = refl
not_ignored o.On h = refl
not_ignored o.Initiate h = refl
not_ignored o.Pcall h = refl
not_ignored (o.Marker s) h = refl
not_ignored (o.Select id) h = refl
not_ignored o.Completion h = refl
not_ignored o.Reset h = refl
not_ignored (o.Read a) h = refl
not_ignored o.Uid h = refl
not_ignored (o.Write a v) h = refl

pub heard_taken : (f : List ℕ) → why_ignored f ≡ wc.Heard → chips.decode f ≡ o.Ignored → ⊥
heard_taken f e h = false≢true (sym (ap (λ x. not (is_ignored x)) h) ∙ sym (chip_agree f) ∙ ap is_heard e)

pub taken_heard : (f : List ℕ) → (chips.decode f ≡ o.Ignored → ⊥) → why_ignored f ≡ wc.Heard
taken_heard f h = heard_true (why_ignored f) (chip_agree f ∙ ap not (not_ignored (chips.decode f) h))
