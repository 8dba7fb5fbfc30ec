-- What the hospital's floor asked of a chip, for any order and draw: UID and option stay, counters fall, locks hold, bits only go down; and from frames and
-- events: a counter is set, SELECT clears reload, one that is off keeps still.
-- A block of the next body is the block before, or what a write to it left; each law is said of these two.
-- Assumes nothing.
use mathlib.Core.Path.{◌≡◌, refl, sym, ap, ap₂, ◌∙◌, subst}
use mathlib.Core.Logic.{◌⊎◌, inl, inr, ⊎_elim}
use mathlib.Core.Bool.{true, false, not, ◌||◌, false≢true}
use mathlib.Core.List.{List, [], ◌∷◌}
use Prim.Native.Nat.{ℕ, ◌+◌, ◌*◌, ◌/◌, ◌%◌, ◌^◌, ◌≤◌, ◌<◌, min}
use native.Mathlib.Nat.{mod-lt, le_of_lt}
use native.Mathlib.Omega.{arith}
use lib.Arith.{bin_ind, digits_mod}
use lib.Bits.{bit_and, and_step, and_le_l, and_self, and_shr, and_mod}
use lib.Dec.{eqb, ltb}
use lib.ListN.{length, get_or}
use lib.Pow.{pow_pos, shr-shr, high}
use lib.Seq.{sets}
use borrow.Author.Tests.{eqb-true, eqb-false, eq-eqb, ne_eqb, lt-ltb, ltb-true, not-true}
use Rattle.frame.specs.Choose.{bit}
use Rattle.frame.specs.Number.{num, bytes_of, part, Bytes}
use Rattle.frame.specs.CheckSum.{framed}
use Rattle.frame.proofs.Bools.{and_both, or_off, if_either, if_both, if_same, below_or_not, same_or_not}
use Rattle.frame.proofs.Numbers.{num_bytes, num_bytes_lt, word_lt}
use Rattle.frame.proofs.Stores.{part_off, part_on}
use Rattle.request.specs.declared.chip.Order.{Order}
use Rattle.request.specs.declared.chip.Order.TheVariants as o
use Rattle.chip.specs.declared.step.Chip.{Chip}
use Rattle.chip.specs.declared.step.Answer.TheVariants.{Silent}
use Rattle.chip.specs.declared.step.Stepped.{Stepped}
use Rattle.request.specs.Chip.{listed, pair, long, decode, heard}
use Rattle.request.proofs.ChipSound.{field, decode_framed}
use Rattle.request.proofs.ChipFramed.{pair_back, long_back}
use Rattle.chip.specs.Write.{locked, written, count_down, lock_down}
use Rattle.chip.specs.Step.{silent, field_off, initiate, pcall, marker, leave, select, read, uid, write, act}
use Rattle.chip.proofs.StepWays.{Next}
use Rattle.chip_body.specs.Body.{load_of, store_of, place_of, block_of, named, worked, stepped, next_chip, said_chip}
use Rattle.chip_body.proofs.BodyShapes.{place_fits}
use Rattle.chip_body.proofs.BodyStored.{place_low, place_high, store_length, store_off, store_part, store_reload, store_load, work_off, next_by}
use Rattle.chip_body.proofs.BodyKeeps.{ChipFine, written_high}

-- ---- what no step writes

pub uid_stays : (order : Order) (d : ℕ) (b : List ℕ) → length b ≡ 80 → part 68 8 (next_chip order d b) ≡ part 68 8 b
uid_stays order d b l =
    next_by (λ (x : List ℕ). part 68 8 x ≡ part 68 8 b) order d b (λ c k. store_part b c 68 8 (omega arith))
    (λ m v c q k n.
    part_off (store_of b c) (bytes_of 4 (written m (block_of m b) v (get_or b 78 0))) (place_of m) 68 8 (inr (place_fits m))
    ∙ store_part b c 68 8 (omega arith))

-- the fixed-ID option is no step's to change; a statement for the reader of document 01, which nothing cites
pub fixed_stays : (order : Order) (d : ℕ) (b : List ℕ) → get_or (next_chip order d b) 79 0 ≡ get_or b 79 0
unfolding next_chip
fixed_stays order d b =
    let x = stepped order d b in
    work_off x.work (store_of b x.next) 79 (omega arith) ∙ store_off b x.next 79 (inr (omega arith))

-- ---- a block of the next body

-- two blocks of which one is below 16 stand apart
apart : (m n : ℕ) → n < 16 → (m ≡ n → ⊥) → (place_of n + 4 ≤ place_of m) ⊎ (place_of m + 4 ≤ place_of n)
apart m n h z =
    ⊎_elim
    (λ (p : m < 16).
    ⊎_elim
    (λ (g : m < n). inr (omega (arith, place_low m p, place_low n h)))
    (λ (g : n ≤ m). inl (omega (arith, place_low m p, place_low n h)))
    (below_or_not m n))
    (λ (p : 16 ≤ m). inl (omega (arith, place_high m p, place_low n h)))
    (below_or_not m 16)

block_on : (n v : ℕ) (x : List ℕ) → 68 ≤ length x → block_of n (sets x (place_of n) (bytes_of 4 v)) ≡ num (bytes_of 4 v)
block_on n v x l = ap num (part_on x (bytes_of 4 v) (place_of n) (omega (arith, place_fits n)))

block_store : (n : ℕ) (b : List ℕ) (c : Chip) → length b ≡ 80 → block_of n (store_of b c) ≡ block_of n b
block_store n b c l = ap num (store_part b c (place_of n) 4 (omega (arith, place_fits n)))

-- the lock word only falls
lock_le : (s v : ℕ) → lock_down s v ≤ s
unfolding lock_down
lock_le s v = omega (arith, and_le_l (s / 2 ^ 16) (v / 2 ^ 16))

module _ (P : ℕ → Type 0) (order : Order) (d : ℕ) (b : List ℕ) (l : length b ≡ 80) where
  -- blocks 0 to 15
  block_next : (n : ℕ) → n < 16 → P (block_of n b)
      → ((v : ℕ) → order ≡ o.Write n v → locked (num (part 64 4 b)) n ≡ false → P (num (bytes_of 4 (written n (block_of n b) v (get_or b 78 0)))))
      → P (block_of n (next_chip order d b))
  block_next n h f g =
      next_by (λ (x : List ℕ). P (block_of n x)) order d b (λ c k. subst P (sym (block_store n b c l)) f) put
    where
      put : (m v : ℕ) (c : Chip) → order ≡ o.Write m v → locked (num (part 64 4 b)) m ≡ false → Next d (load_of b) c
          → P (block_of n (sets (store_of b c) (place_of m) (bytes_of 4 (written m (block_of m b) v (get_or b 78 0)))))
      put m v c q k z =
          let len : 68 ≤ length (store_of b c) = rw (store_length b c) (omega arith) in
          ⊎_elim
          (λ (e : m ≡ n).
          rw e
          (subst P (sym (block_on n (written n (block_of n b) v (get_or b 78 0)) (store_of b c) len)) (g v (rw e at q) (rw e at k))))
          (λ (e : m ≡ n → ⊥).
          subst P
          (sym
          (ap num
          (part_off (store_of b c) (bytes_of 4 (written m (block_of m b) v (get_or b 78 0))) (place_of m) (place_of n) 4 (apart m n h e))
          ∙ block_store n b c l))
          f)
          (same_or_not m n)

  -- block 255
  lock_next : Bytes b → P (num (part 64 4 b)) → ((v : ℕ) → P (lock_down (num (part 64 4 b)) v)) → P (num (part 64 4 (next_chip order d b)))
  lock_next bs f g =
      next_by (λ (x : List ℕ). P (num (part 64 4 x))) order d b (λ c k. subst P (sym (stays c)) f)
      (λ m v c q k z.
      ⊎_elim
      (λ (h : m < 16).
      subst P
      (sym
      (ap num
      (part_off (store_of b c) (bytes_of 4 (written m (block_of m b) v (get_or b 78 0))) (place_of m) 64 4 (inr (omega (arith, place_low m h))))
      ∙ stays c))
      f)
      (λ (h : 16 ≤ m).
      let w : written m (block_of m b) v (get_or b 78 0) ≡ lock_down (num (part 64 4 b)) v
      = written_high m (block_of m b) v (get_or b 78 0) h ∙ ap (λ (p : ℕ). lock_down (num (part p 4 b)) v) (place_high m h) in
      rw (w, place_high m h)
      (subst P
      (sym
      (ap num (part_on (store_of b c) (bytes_of 4 (lock_down (num (part 64 4 b)) v)) 64 (rw (store_length b c) (omega arith)))
      ∙ num_bytes_lt 4 (lock_down (num (part 64 4 b)) v) (omega (arith, lock_le (num (part 64 4 b)) v, word_lt 64 b bs))))
      (g v)))
      (below_or_not m 16))
    where
      stays : (c : Chip) → num (part 64 4 (store_of b c)) ≡ num (part 64 4 b)
      stays c = ap num (store_part b c 64 4 (omega arith))

-- ---- counters

-- blocks 5 and 6
written_count : (n old v r : ℕ) → (n ≡ 5) ⊎ (n ≡ 6) → written n old v r ≡ count_down old v
unfolding written
written_count n old v r (inl e) = rw e
written_count n old v r (inr e) = rw e

count_below : (n : ℕ) → (n ≡ 5) ⊎ (n ≡ 6) → n < 16
count_below n (inl e) = omega arith
count_below n (inr e) = omega arith

count_le : (old v : ℕ) → count_down old v ≤ old
unfolding count_down
count_le old v = if_either (λ (x : ℕ). x ≤ old) (ltb v old) v old (λ e. le_of_lt (ltb-true v old e)) (λ e. omega arith)

pub counter_falls : (order : Order) (d : ℕ) (b : List ℕ) (n : ℕ) → (n ≡ 5) ⊎ (n ≡ 6) → length b ≡ 80
    → block_of n (next_chip order d b) ≤ block_of n b
counter_falls order d b n h l =
    block_next (λ (x : ℕ). x ≤ block_of n b) order d b l n (count_below n h) (omega arith)
    (λ v q k. let w = written n (block_of n b) v (get_or b 78 0) in
    omega (arith, num_bytes 4 w, written_count n (block_of n b) v (get_or b 78 0) h, count_le (block_of n b) v))

-- a frame that writes to a counter
count_heard : (n : ℕ) (w : List ℕ) → (n ≡ 5) ⊎ (n ≡ 6) → length w ≡ 4 → heard 5 (framed (0x09 ∷ n ∷ w)) ≡ o.Write n (num w)
unfolding heard long listed
count_heard n w (inl e) h = long_back 0x09 n w h ∙ rw e
count_heard n w (inr e) h = long_back 0x09 n w h ∙ rw e

-- what a write that is heeded leaves
put_next : (n v d : ℕ) (b : List ℕ) → length b ≡ 80 → get_or b 76 0 ≡ 3 → locked (num (part 64 4 b)) n ≡ false
    → block_of n (next_chip (o.Write n v) d b) ≡ num (bytes_of 4 (written n (block_of n b) v (get_or b 78 0)))
unfolding next_chip stepped act write named worked load_of
put_next n v d b l q k = rw (q, k) (block_on n (written n (block_of n b) v (get_or b 78 0)) (store_of b _) (rw (store_length b _) (omega arith)))

-- set, and not lowered by what is written: it becomes w where that is below it, else it stays
pub counter_set : (n : ℕ) (w : List ℕ) (d : ℕ) (b : List ℕ) → (n ≡ 5) ⊎ (n ≡ 6) → length w ≡ 4 → length b ≡ 80 → Bytes b → get_or b 76 0 ≡ 3
    → locked (num (part 64 4 b)) n ≡ false → block_of n (next_chip (heard 5 (framed (0x09 ∷ n ∷ w))) d b) ≡ count_down (block_of n b) (num w)
counter_set n w d b h m l bs q k =
    let old = block_of n b in
    let z : count_down old (num w) < 2 ^ 32 = omega (arith, count_le old (num w), word_lt (place_of n) b bs) in
    ap (λ (order : Order). block_of n (next_chip order d b)) (count_heard n w h m)
    ∙ put_next n (num w) d b l q k
    ∙ ap (λ (x : ℕ). num (bytes_of 4 x)) (written_count n old (num w) (get_or b 78 0) h)
    ∙ num_bytes_lt 4 (count_down old (num w)) z

-- ---- locks

locked_below : (s n : ℕ) → locked s n ≡ true → n < 16
unfolding locked
locked_below s n h = ltb-true n 16 (and_both (ltb n 16) (eqb (bit (16 + n) s) 0) h).0

pub locked_stays : (order : Order) (d : ℕ) (b : List ℕ) (n : ℕ) → length b ≡ 80 → locked (num (part 64 4 b)) n ≡ true
    → block_of n (next_chip order d b) ≡ block_of n b
locked_stays order d b n l h =
    block_next (λ (x : ℕ). x ≡ block_of n b) order d b l n (locked_below (num (part 64 4 b)) n h) refl
    (λ v q k. absurd (false≢true (sym k ∙ h)))

-- a lock stays: a bit of the lock word at 0 is 0 after every write
lock_holds : (s v n : ℕ) → locked s n ≡ true → locked (lock_down s v) n ≡ true
unfolding locked lock_down
lock_holds s v n h =
    let p = and_both (ltb n 16) (eqb (bit (16 + n) s) 0) h in
    let t = bit_and (s / 2 ^ 16) (v / 2 ^ 16) in
    let z : s / 2 ^ 16 / 2 ^ n % 2 ≡ 0 = ap (λ (x : ℕ). x % 2) (shr-shr s 16 n) ∙ eqb-true (bit (16 + n) s) 0 p.1 in
    rw p.0
    (eq-eqb (bit (16 + n) (lock_down s v)) 0
    (ap (λ (x : ℕ). x % 2)
    (sym (shr-shr (lock_down s v) 16 n)
    ∙ ap (λ (x : ℕ). x / 2 ^ n) (high t 16 (mod-lt s (pow_pos 16)))
    ∙ and_shr (s / 2 ^ 16) (v / 2 ^ 16) n)
    ∙ and_mod (s / 2 ^ 16 / 2 ^ n) (v / 2 ^ 16 / 2 ^ n) 1
    ∙ ap (λ (x : ℕ). bit_and x (v / 2 ^ 16 / 2 ^ n % 2)) z))

pub lock_stays : (order : Order) (d : ℕ) (b : List ℕ) (n : ℕ) → length b ≡ 80 → Bytes b → locked (num (part 64 4 b)) n ≡ true
    → locked (num (part 64 4 (next_chip order d b))) n ≡ true
lock_stays order d b n l bs h =
    lock_next (λ (s : ℕ). locked s n ≡ true) order d b l bs h (λ v. lock_holds (num (part 64 4 b)) v n h)

-- ---- resettable blocks

-- o AND (o AND w) is o AND w
and_again : (x y : ℕ) → bit_and x (bit_and x y) ≡ bit_and x y
and_again =
    bin_ind (λ (x : ℕ). (y : ℕ) → bit_and x (bit_and x y) ≡ bit_and x y) (λ y. refl)
    (λ x ih y.
    let l : min (x % 2) (y % 2) < 2 = omega arith in
    let e : bit_and x y % 2 ≡ min (x % 2) (y % 2) = ap (λ (z : ℕ). z % 2) (and_step x y) ∙ digits_mod (bit_and (x / 2) (y / 2)) l in
    and_step x (bit_and x y)
    ∙ ap₂ (λ (p r : ℕ). p * 2 + r) (ap (bit_and (x / 2)) (and_shr x y 1) ∙ ih (y / 2)) (omega arith)
    ∙ sym (and_step x y))

written_down : (n old v r : ℕ) → n < 5 → (r ≡ 1 → ⊥) → written n old v r ≡ bit_and old v
unfolding written
written_down n old v r h z = rw (lt-ltb n 5 h, ne_eqb r 1 z)

-- without reload no bit goes from 0 to 1
pub only_down : (order : Order) (d : ℕ) (b : List ℕ) (n : ℕ) → n < 5 → (get_or b 78 0 ≡ 1 → ⊥) → length b ≡ 80 → Bytes b
    → bit_and (block_of n b) (block_of n (next_chip order d b)) ≡ block_of n (next_chip order d b)
only_down order d b n h z l bs =
    block_next (λ (x : ℕ). bit_and (block_of n b) x ≡ x) order d b l n (omega arith) (and_self (block_of n b))
    (λ v q k.
    let old = block_of n b in
    let y : num (bytes_of 4 (written n old v (get_or b 78 0))) ≡ bit_and old v
    = ap (λ (x : ℕ). num (bytes_of 4 x)) (written_down n old v (get_or b 78 0) h z)
    ∙ num_bytes_lt 4 (bit_and old v) (omega (arith, and_le_l old v, word_lt (place_of n) b bs)) in
    subst (λ (x : ℕ). bit_and old x ≡ x) (sym y) (and_again old v))

-- ---- SELECT

-- outside state 3 reload is 0
no_reload : (b : List ℕ) → ChipFine b → (get_or b 76 0 ≡ 3 → ⊥) → get_or b 78 0 ≡ 0
no_reload b h z =
    let l : get_or b 78 0 ≤ 1 = h.reload in
    ⊎_elim (λ (e : get_or b 78 0 ≡ 1). absurd (z (h.reloads e))) (λ (e : get_or b 78 0 ≡ 1 → ⊥). omega arith) (same_or_not (get_or b 78 0) 1)

abbrev Clear : Stepped → Type 0
Clear x = x.next.reload ≡ 0

select_clears : (id : ℕ) (b : List ℕ) → ChipFine b → (select id (load_of b)).next.reload ≡ 0
unfolding select leave load_of
select_clears id b h =
    let s = get_or b 76 0 in
    if_either Clear (not (eqb (get_or b 77 0) id)) _ _
    (λ e. if_either Clear (not (eqb s 3)) _ _ (λ f. no_reload b h (eqb-false s 3 (not-true (eqb s 3) f))) (λ f. refl))
    (λ e. if_either Clear (eqb s 2 || (eqb s 3 || eqb s 4)) _ _ (λ f. refl)
    (λ f. no_reload b h (eqb-false s 3 (or_off (eqb s 3) (eqb s 4) (or_off (eqb s 2) (eqb s 3 || eqb s 4) f).1).0)))

select_heard : (id : ℕ) → heard 5 (framed (0x0E ∷ id ∷ [])) ≡ o.Select id
unfolding heard pair
select_heard id = pair_back 0x0E id

select_next : (id d : ℕ) (b : List ℕ) → length b ≡ 80 → ChipFine b → get_or (next_chip (o.Select id) d b) 78 0 ≡ 0
unfolding next_chip stepped act
select_next id d b l h =
    let x = stepped (o.Select id) d b in
    work_off x.work (store_of b x.next) 78 (omega arith) ∙ store_reload b x.next (omega arith) ∙ select_clears id b h

pub reload_cleared : (id d : ℕ) (b : List ℕ) → length b ≡ 80 → ChipFine b → get_or (next_chip (heard 5 (framed (0x0E ∷ id ∷ []))) d b) 78 0 ≡ 0
reload_cleared id d b l h = ap (λ (order : Order). get_or (next_chip order d b) 78 0) (select_heard id) ∙ select_next id d b l h

-- ---- events that leave a chip as it is

-- nothing said, and the body unchanged
abbrev pub Ignores : Order → ℕ → List ℕ → Type 0
Ignores order d b = (said_chip order d b ≡ Silent) × (next_chip order d b ≡ b)

by_step : (order : Order) (d : ℕ) (b : List ℕ) → stepped order d b ≡ silent (load_of b) → Ignores order d b
unfolding said_chip next_chip worked
by_step order d b e =
    (ap (λ (x : Stepped). x.answer) e, ap (λ (x : Stepped). worked x.work (store_of b x.next)) e ∙ store_load b)

pub unasked : (d : ℕ) (b : List ℕ) → Ignores o.Ignored d b
unfolding stepped act
unasked d b = by_step o.Ignored d b refl

-- document 01, "Events": chips ignore 3 and 4; a statement, which nothing cites
pub ignores_3_4 : (number : ℕ) (f : List ℕ) (d : ℕ) (b : List ℕ) → (number ≡ 3) ⊎ (number ≡ 4) → Ignores (heard number f) d b
unfolding heard
ignores_3_4 number f d b (inl e) = rw e (unasked d b)
ignores_3_4 number f d b (inr e) = rw e (unasked d b)

-- state 0: no frame is heard
off_acts : (order : Order) (d old s : ℕ) (c : Chip) → c.state ≡ 0 → field order ≡ false → act order d old s c ≡ silent c
unfolding act initiate pcall marker select leave read uid write
off_acts o.Ignored d old s c q h = refl
off_acts o.Off d old s c q h = absurd (false≢true (sym h))
off_acts o.On d old s c q h = absurd (false≢true (sym h))
off_acts o.Initiate d old s c q h = rw q
off_acts o.Pcall d old s c q h = rw q
off_acts (o.Marker n) d old s c q h = rw q
off_acts (o.Select id) d old s c q h = rw q (if_same (not (eqb c.id id)) _)
off_acts o.Completion d old s c q h = rw q
off_acts o.Reset d old s c q h = rw q
off_acts (o.Read n) d old s c q h = rw q
off_acts o.Uid d old s c q h = rw q
off_acts (o.Write n v) d old s c q h = rw q

-- document 01, "Events": tags in state 0 ignore everything but field on; a statement, which nothing cites
module _ (d : ℕ) (b : List ℕ) (ok : ChipFine b) (q : get_or b 76 0 ≡ 0) where
  -- field off finds it as it leaves it
  off_again : Ignores o.Off d b
  unfolding stepped act field_off load_of
  off_again =
      let id : get_or b 77 0 ≡ 0 = ok.off q in
      let reload : get_or b 78 0 ≡ 0 = no_reload b ok (λ e. omega arith) in
      by_step o.Off d b (rw (q, id, reload))

  off_frame : (f : List ℕ) → Ignores (decode f) d b
  unfolding stepped load_of
  off_frame f = by_step (decode f) d b (off_acts (decode f) d (named (decode f) b) (num (part 64 4 b)) (load_of b) q (decode_framed f))

  pub off_ignores : (number : ℕ) (f : List ℕ) → (number ≡ 2 → ⊥) → Ignores (heard number f) d b
  unfolding heard
  off_ignores number f n =
      let P : Order → Type 0 = λ x. Ignores x d b in
      if_both P (eqb number 1) off_again
      (if_either P (eqb number 2) _ _ (λ e. absurd (n (eqb-true number 2 e))) (λ e. if_both P (eqb number 5) (off_frame f) (unasked d b)))
