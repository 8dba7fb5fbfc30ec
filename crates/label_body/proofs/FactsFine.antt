-- What the rules of a label's body say, as facts, and back. A mask has no bit above its length where none of its bytes has: by induction on the bytes,
-- eight bits fewer for each. The place of an offence lies in the body: by the cases of the rules.
-- Assumes nothing.
use Rattle.std.specs.Prelude.{if◌then◌else◌}
use mathlib.Core.Path.{◌≡◌, refl, ap, ◌∙◌, subst}
use mathlib.Core.Logic.{⊎_elim}
use mathlib.Core.Bool.{Bool, true, false, not, ◌&&◌}
use mathlib.Core.List.{List, [], ◌∷◌}
use Prim.Native.Nat.{ℕ, zero, suc, ◌+◌, ◌-◌, ◌*◌, ◌/◌, ◌^◌, ◌≤◌, ◌<◌}
use native.Mathlib.Nat.{mul-pos, sub-zero, zero-lt-suc}
use native.Mathlib.Omega.{arith}
use lib.Dec.{eqb, ltb}
use lib.Pow.{pow_pos, pow_mono, pow-add}
use lib.ListN.{length, get_or, drop, length-take}
use lib.Seq.{get_or-take, get_or-drop}
use borrow.Author.Tests.{eqb-true, eqb-false, eq-eqb, ne_eqb, ltb-false, le-ltb, leb-false, lt-leb, not-false}
use Rattle.frame.specs.Number.{num, part, Bytes}
use Rattle.std.specs.Prelude.{Ok, Err}
use Rattle.frame.specs.declared.verdict.Rule.TheVariants.{Body}
use Rattle.frame.specs.Judge.{Verdict, fine, bad, or_else, first_of, byte_verdict}
use Rattle.frame.proofs.Ending.{high_zero}
use Rattle.frame.proofs.Bools.{below_or_not, if_both}
use Rattle.frame.proofs.Numbers.{bytes_part}
use Rattle.frame.proofs.Judge.{if_fine, else_fine, first_each, first_all, bytes_fine, bytes_good}
use Rattle.label_body.specs.Locks.{lock_room, locks_verdict}
use Rattle.label_body.specs.Body.{wanted_of, Sized, head_rules, bits_rules, slot_rules, over, mask_verdict, label_rules}
use Rattle.label_body.specs.Facts.{LabelFine}
use Rattle.label_body.proofs.LocksLaws.{room_some, locks_tell, locks_keep, locks_place, first_place, byte_place, Within, else_place}
use Rattle.label_body.proofs.BodyJudged.{head_sized, head_long, verdict_fine}

-- ---- masks

-- eight bits fewer
fewer : (m : ℕ) → 8 ≤ m → 2 ^ m ≡ 256 * 2 ^ (m - 8)
fewer m h = let e : m ≡ 8 + (m - 8) = omega arith in ap (λ (k : ℕ). 2 ^ k) e ∙ pow-add 2 8 (m - 8)

none_left : (m : ℕ) → m < 8 → 2 ^ (m - 8) ≡ 1
none_left m h = let e : m - 8 ≡ 0 = omega arith in rw e

fewer_bits : (m j : ℕ) → m - 8 * suc j ≡ m - 8 - 8 * j
fewer_bits m j = omega arith

join_lt : (x n m : ℕ) → x < 256 → x < 2 ^ m → n < 2 ^ (m - 8) → x + n * 256 < 2 ^ m
join_lt x n m hx h l =
    ⊎_elim
    (λ (k : m < 8). let q : 2 ^ (m - 8) ≡ 1 = none_left m k in omega arith)
    (λ (k : 8 ≤ m). let q : 2 ^ m ≡ 256 * 2 ^ (m - 8) = fewer m k in omega arith)
    (below_or_not m 8)

split_lt : (x n m : ℕ) → x + n * 256 < 2 ^ m → n < 2 ^ (m - 8)
split_lt x n m h =
    ⊎_elim
    (λ (k : m < 8).
    let q : 2 ^ (m - 8) ≡ 1 = none_left m k in
    let p : 2 ^ m ≤ 2 ^ 8 = pow_mono {i = m} {j = 8} (omega arith) in
    omega arith)
    (λ (k : 8 ≤ m). let q : 2 ^ m ≡ 256 * 2 ^ (m - 8) = fewer m k in omega arith)
    (below_or_not m 8)

le_lt : (x y n : ℕ) → x + y < n → x < n
le_lt x y n h = omega arith

pub mask_small : (s : List ℕ) (m : ℕ) → Bytes s → ((j : ℕ) → j < length s → get_or s j 0 < 2 ^ (m - 8 * j)) → num s < 2 ^ m
mask_small [] m bs h = pow_pos m
mask_small (x ∷ s) m bs h =
    join_lt x (num s) m (bs 0) (rw (sub-zero m) at (h 0 (zero-lt-suc (length s))))
    (mask_small s (m - 8) (λ i. bs (suc i)) (λ j l. rw (← fewer_bits m j) (h (suc j) (omega arith))))

pub small_mask : (s : List ℕ) (m : ℕ) → Bytes s → num s < 2 ^ m → (j : ℕ) → get_or s j 0 < 2 ^ (m - 8 * j)
small_mask [] m bs h j = pow_pos (m - 8 * j)
small_mask (x ∷ s) m bs h zero = rw (sub-zero m) (le_lt x (num s * 256) (2 ^ m) h)
small_mask (x ∷ s) m bs h (suc j) = rw (fewer_bits m j) (small_mask s (m - 8) (λ i. bs (suc i)) (split_lt x (num s) m h) j)

-- the mask's bytes are those from 17 on
mask_byte : (b : List ℕ) (j : ℕ) → j < 8 → get_or (part 17 8 b) j 0 ≡ get_or b (17 + j) 0
mask_byte b j h = get_or-take 8 (drop 17 b) j 0 h ∙ get_or-drop 17 b j 0

-- ---- slot and mask length

record SlotFine (b : List ℕ) : Type 0 where
  slot : (get_or b 15 0 ≡ 255 → ⊥) → get_or b 15 0 ≤ 15
  ready : (get_or b 15 0 ≡ 255 → ⊥) → (get_or b 14 0 ≡ 1 → ⊥) → get_or b 14 0 ≡ 3
  idle : get_or b 15 0 ≡ 255 → get_or b 16 0 ≡ 0
  bits : get_or b 16 0 ≤ 60

-- a state that is not 1 is 3
other : (n : ℕ) → (not (eqb n 1) && not (eqb n 3)) ≡ false → (n ≡ 1 → ⊥) → n ≡ 3
other n e z = let q : not (eqb n 3) ≡ false = rw (ne_eqb n 1 z) at e in eqb-true n 3 (not-false (eqb n 3) q)

slot_fine : (b : List ℕ) → slot_rules b ≡ fine → SlotFine b
unfolding slot_rules bits_rules
slot_fine b e = go (eqb (get_or b 15 0) 255) refl
  where
    go : (t : Bool) → eqb (get_or b 15 0) 255 ≡ t → SlotFine b
    go true q =
        let z : get_or b 15 0 ≡ 255 = eqb-true (get_or b 15 0) 255 q in
        let p = if_fine (not (eqb (get_or b 16 0) 0)) Body 16 fine (rw q at e) in
        let i : get_or b 16 0 ≡ 0 = eqb-true (get_or b 16 0) 0 (not-false (eqb (get_or b 16 0) 0) p.0) in
        record { slot = λ n. absurd (n z); ready = λ n m. absurd (n z); idle = λ n. i; bits = omega arith }
    go false q =
        let p = if_fine (ltb 15 (get_or b 15 0)) Body 15 _ (rw q at e) in
        let r = if_fine (not (eqb (get_or b 14 0) 1) && not (eqb (get_or b 14 0) 3)) Body 15 _ p.1 in
        let w = if_fine (ltb 60 (get_or b 16 0)) Body 16 fine r.1 in
        record {
          slot = λ n. ltb-false 15 (get_or b 15 0) p.0;
          ready = λ n. other (get_or b 14 0) r.0;
          idle = λ n. absurd (eqb-false (get_or b 15 0) 255 q n);
          bits = ltb-false 60 (get_or b 16 0) w.0;
        }

-- ---- the rules tell the facts

mask_tells : (b : List ℕ) → Bytes b → first_of 8 (mask_verdict b) ≡ fine → num (part 17 8 b) < 2 ^ get_or b 16 0
unfolding mask_verdict over
mask_tells b bs e =
    mask_small (part 17 8 b) (get_or b 16 0) (bytes_part 17 8 b bs)
    (λ j l.
    let h : j < 8 = omega (arith, length-take 8 (drop 17 b)) in
    rw (mask_byte b j h)
    (leb-false (2 ^ (get_or b 16 0 - 8 * j)) (get_or b (17 + j) 0)
    (if_fine (over b j) Body (17 + j) fine (first_each (mask_verdict b) 8 j e h)).0))

record HeadFine (b : List ℕ) : Type 0 where
  locks : get_or b 10 0 ≤ 3
  size : get_or b 12 0 ≤ 31
  state : get_or b 14 0 ≤ 3

head_tells : (b : List ℕ) → head_rules b ≡ fine → HeadFine b
unfolding head_rules
head_tells b e =
    let p = if_fine (ltb 3 (get_or b 10 0)) Body 10 _ e in
    let q = if_fine (not (eqb (length b) (wanted_of b))) Body 11 _ p.1 in
    let r = if_fine (ltb 31 (get_or b 12 0)) Body 12 _ q.1 in
    let s = if_fine (ltb 3 (get_or b 14 0)) Body 14 fine r.1 in
    record {
      locks = ltb-false 3 (get_or b 10 0) p.0;
      size = ltb-false 31 (get_or b 12 0) r.0;
      state = ltb-false 3 (get_or b 14 0) s.0;
    }

record Told (b : List ℕ) : Type 0 where
  head : head_rules b ≡ fine
  slot : slot_rules b ≡ fine
  mask : first_of 8 (mask_verdict b) ≡ fine
  zeros : first_of 7 (byte_verdict b 25 0) ≡ fine
  locks : locks_verdict b ≡ fine

told : (b : List ℕ) → label_rules b ≡ fine → Told b
unfolding label_rules
told b e =
    let p = else_fine (head_rules b) _ e in
    let q = else_fine (slot_rules b) _ p.1 in
    let r = else_fine (first_of 8 (mask_verdict b)) _ q.1 in
    let s = else_fine (first_of 7 (byte_verdict b 25 0)) _ r.1 in
    record { head = p.0; slot = q.0; mask = r.0; zeros = s.0; locks = s.1 }

pub rules_fine : (b : List ℕ) → Bytes b → label_rules b ≡ fine → LabelFine b
rules_fine b bs e =
    let t = told b e in
    let h = head_tells b t.head in
    let s = slot_fine b t.slot in
    record {
      locks = h.locks;
      sized = head_sized b t.head;
      size = h.size;
      state = h.state;
      slot = s.slot;
      ready = s.ready;
      idle = s.idle;
      bits = s.bits;
      mask = mask_tells b bs t.mask;
      zeros = bytes_fine b 25 0 7 t.zeros;
      locked = locks_tell b t.locks;
    }

pub sized_of : (b : List ℕ) → label_rules b ≡ fine → Sized b
sized_of b e = head_sized b (told b e).head

pub size_of : (b : List ℕ) → label_rules b ≡ fine → get_or b 12 0 ≤ 31
size_of b e = (head_tells b (told b e).head).size

pub long_enough : (b : List ℕ) → Sized b → 34 ≤ length b
unfolding Sized
long_enough b s =
    let r = room_some b in
    let p : 0 < (get_or b 11 0 + 1) * (get_or b 12 0 + 1) = mul-pos {m = get_or b 11 0 + 1} {n = get_or b 12 0 + 1} (omega arith) (omega arith) in
    omega arith

-- ---- the facts keep the rules

head_keeps : (b : List ℕ) → LabelFine b → head_rules b ≡ fine
unfolding head_rules Sized
head_keeps b l = rw (le-ltb _ _ l.locks, eq-eqb _ _ l.sized, le-ltb _ _ l.size, le-ltb _ _ l.state)

slot_keeps : (b : List ℕ) → LabelFine b → slot_rules b ≡ fine
unfolding slot_rules bits_rules
slot_keeps b l = go (eqb (get_or b 15 0) 255) refl
  where
    go : (t : Bool) → eqb (get_or b 15 0) 255 ≡ t → slot_rules b ≡ fine
    go true q = rw (q, eq-eqb (get_or b 16 0) 0 (l.idle (eqb-true (get_or b 15 0) 255 q)))
    go false q =
        let z = eqb-false (get_or b 15 0) 255 q in
        rw (q, le-ltb 15 (get_or b 15 0) (l.slot z)) (by (eqb (get_or b 14 0) 1) refl)
      where
        by : (u : Bool) → eqb (get_or b 14 0) 1 ≡ u
            → (if not (eqb (get_or b 14 0) 1) && not (eqb (get_or b 14 0) 3) then bad Body 15 else if ltb 60 (get_or b 16 0) then bad Body 16 else fine) ≡ fine
        by true w = rw (w, le-ltb 60 (get_or b 16 0) l.bits)
        by false w =
            rw (w, eq-eqb (get_or b 14 0) 3 (l.ready (eqb-false (get_or b 15 0) 255 q) (eqb-false (get_or b 14 0) 1 w)), le-ltb 60 (get_or b 16 0) l.bits)

pub mask_keeps : (b : List ℕ) → Bytes b → num (part 17 8 b) < 2 ^ get_or b 16 0 → first_of 8 (mask_verdict b) ≡ fine
unfolding over
mask_keeps b bs h =
    first_all (mask_verdict b) 8
    (λ j l.
    let p : get_or (part 17 8 b) j 0 < 2 ^ (get_or b 16 0 - 8 * j) = small_mask (part 17 8 b) (get_or b 16 0) (bytes_part 17 8 b bs) h j in
    verdict_fine b j (lt-leb (2 ^ (get_or b 16 0 - 8 * j)) (get_or b (17 + j) 0) (rw (mask_byte b j l) at p)))

-- the seven bytes behind the mask, as the number of eight bytes without its lowest
pub zeros_keep : (b : List ℕ) (n : ℕ) → Bytes b → n ≡ num (part 24 8 b) → n / 2 ^ 8 ≡ 0 → first_of 7 (byte_verdict b 25 0) ≡ fine
zeros_keep b n bs e z =
    let h : num (part 24 8 b) < 2 ^ 8 = subst (λ (x : ℕ). x < 2 ^ 8) e (high_zero n 8 z) in
    bytes_good b 25 0 7 (λ j (l : j < 7).
    let p : get_or (part 24 8 b) (1 + j) 0 < 2 ^ (8 - 8 * (1 + j)) = small_mask (part 24 8 b) 8 (bytes_part 24 8 b bs) h (1 + j) in
    let k : get_or (part 24 8 b) (1 + j) 0 ≡ get_or b (24 + (1 + j)) 0 = get_or-take 8 (drop 24 b) (1 + j) 0 (omega arith) ∙ get_or-drop 24 b (1 + j) 0 in
    let m : 24 + (1 + j) ≡ 25 + j = omega arith in
    let o : 8 - 8 * (1 + j) ≡ 0 = omega arith in
    let q : get_or (part 24 8 b) (1 + j) 0 < 1 = rw o at p in
    let w : get_or b (24 + (1 + j)) 0 ≤ 0 = omega (arith, q, k) in
    subst (λ (i : ℕ). get_or b i 0 ≤ 0) m w)

pub fine_rules : (b : List ℕ) → Bytes b → LabelFine b → label_rules b ≡ fine
unfolding label_rules Sized
fine_rules b bs l =
    rw (
      head_keeps b l,
      slot_keeps b l,
      mask_keeps b bs l.mask,
      bytes_good b 25 0 7 l.zeros,
      locks_keep b l.locked,
    )

-- ---- where an offence is

mask_place : (b : List ℕ) (j : ℕ) → j < 8 → Within 8480 (mask_verdict b j)
unfolding mask_verdict
mask_place b j h = if_both (Within 8480) (over b j) (omega arith) tt

head_place : (b : List ℕ) → Within 8480 (head_rules b)
unfolding head_rules
head_place b =
    if_both (Within 8480) (ltb 3 (get_or b 10 0)) (omega arith)
    (if_both (Within 8480) (not (eqb (length b) (wanted_of b))) (omega arith)
    (if_both (Within 8480) (ltb 31 (get_or b 12 0)) (omega arith) (if_both (Within 8480) (ltb 3 (get_or b 14 0)) (omega arith) tt)))

slot_place : (b : List ℕ) → Within 8480 (slot_rules b)
unfolding slot_rules bits_rules
slot_place b =
    if_both (Within 8480) (eqb (get_or b 15 0) 255) (if_both (Within 8480) (not (eqb (get_or b 16 0) 0)) (omega arith) tt)
    (if_both (Within 8480) (ltb 15 (get_or b 15 0)) (omega arith)
    (if_both (Within 8480) (not (eqb (get_or b 14 0) 1) && not (eqb (get_or b 14 0) 3)) (omega arith)
    (if_both (Within 8480) (ltb 60 (get_or b 16 0)) (omega arith) tt)))

-- behind a head that is fine
pub rules_place : (b : List ℕ) → length b ≤ 8480 → Within 8480 (label_rules b)
unfolding label_rules
rules_place b h = go (head_rules b) refl (head_place b)
  where
    rest : Verdict
    rest =
        or_else (slot_rules b)
        (or_else (first_of 8 (mask_verdict b)) (or_else (first_of 7 (byte_verdict b 25 0)) (locks_verdict b)))

    go : (v : Verdict) → head_rules b ≡ v → Within 8480 v → Within 8480 (or_else v rest)
    go (Err o) e p = p
    go (Ok u) e p =
        let s : 32 + lock_room b ≤ length b = head_long b e in
        else_place 8480 (slot_rules b) _ (slot_place b)
        (else_place 8480 (first_of 8 (mask_verdict b)) _ (first_place (mask_verdict b) 8480 8 (λ i l. mask_place b i l))
        (else_place 8480 (first_of 7 (byte_verdict b 25 0)) _
        (first_place (byte_verdict b 25 0) 8480 7 (λ i l. byte_place b 25 0 i 8480 (omega arith)))
        (locks_place b 8480 (omega arith))))
