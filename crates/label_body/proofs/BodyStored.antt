-- What a label written into a body leaves and reads: three runs of stores (8 to 10, 14 to 16, 17 to 24), each read by the laws of runs.
-- Assumes nothing.
use mathlib.Core.Path.{◌≡◌, sym, ap, ◌∙◌, subst}
use mathlib.Core.Logic.{inl, inr}
use mathlib.Core.List.{List, [], ◌∷◌}
use Prim.Native.Nat.{ℕ, ◌+◌, ◌^◌, ◌≤◌, ◌<◌}
use native.Mathlib.Omega.{arith}
use lib.ListN.{length, get_or, set}
use lib.Seq.{sets, length-sets, set-get_or}
use Rattle.frame.specs.Number.{num, bytes_of, part, Bytes}
use Rattle.frame.proofs.Numbers.{num_bytes_lt, bytes_num, bytes_part, bytes_small}
use Rattle.frame.proofs.Stores.{sets_off, sets_on, length_part, part_ext, part_on, sets_own, bytes_three, bytes_sets}
use Rattle.label.specs.declared.step.Label.{Label}
use Rattle.label.specs.Step.{label, with_slot}
use Rattle.label_body.specs.Slots.{seek}
use Rattle.label_body.proofs.LocksLaws.{room_same, lock_above}
use Rattle.label_body.specs.Locks.{lock_on}
use Rattle.label_body.specs.Body.{load_of, store_of, Sized, block_at}

-- what is there already
pub set_same : (b : List ℕ) (at v : ℕ) → get_or b at 0 ≡ v → b ≡ set b at v
set_same b at v e = subst (λ (x : ℕ). b ≡ set b at x) e (sym (set-get_or b at 0))

-- the three runs
abbrev low : Label → List ℕ
low l = l.dsfid ∷ l.afi ∷ l.locks ∷ []

abbrev mid : Label → List ℕ
mid l = l.state ∷ l.slot ∷ l.bits ∷ []

abbrev high : Label → List ℕ
high l = bytes_of 8 l.mask

abbrev one : List ℕ → Label → List ℕ
one b l = sets b 8 (low l)

abbrev two : List ℕ → Label → List ℕ
two b l = sets (one b l) 14 (mid l)

module _ (b : List ℕ) (l : Label) where
  pub stored_length : length (store_of b l) ≡ length b
  unfolding store_of
  stored_length = length-sets (two b l) 17 (high l) ∙ length-sets (one b l) 14 (mid l) ∙ length-sets b 8 (low l)

  -- ---- what it leaves

  pub stored_below : (j : ℕ) → j < 8 → get_or (store_of b l) j 0 ≡ get_or b j 0
  unfolding store_of
  stored_below j h =
      sets_off (two b l) (high l) 17 j (inl (omega arith))
      ∙ sets_off (one b l) (mid l) 14 j (inl (omega arith))
      ∙ sets_off b (low l) 8 j (inl (omega arith))

  pub stored_between : (j : ℕ) → 11 ≤ j → j < 14 → get_or (store_of b l) j 0 ≡ get_or b j 0
  unfolding store_of
  stored_between j h g =
      sets_off (two b l) (high l) 17 j (inl (omega arith))
      ∙ sets_off (one b l) (mid l) 14 j (inl (omega arith))
      ∙ sets_off b (low l) 8 j (inr (omega arith))

  pub stored_above : (j : ℕ) → 25 ≤ j → get_or (store_of b l) j 0 ≡ get_or b j 0
  unfolding store_of
  stored_above j h =
      sets_off (two b l) (high l) 17 j (inr (omega arith))
      ∙ sets_off (one b l) (mid l) 14 j (inr (omega arith))
      ∙ sets_off b (low l) 8 j (inr (omega arith))

  pub stored_uid : part 0 8 (store_of b l) ≡ part 0 8 b
  stored_uid = part_ext 0 8 (store_of b l) b stored_length (λ j h. stored_below (0 + j) (omega arith))

  pub stored_numbers : part 11 3 (store_of b l) ≡ part 11 3 b
  stored_numbers = part_ext 11 3 (store_of b l) b stored_length (λ j h. stored_between (11 + j) (omega arith) (omega arith))

  pub stored_part : (p k : ℕ) → 25 ≤ p → part p k (store_of b l) ≡ part p k b
  stored_part p k h = part_ext p k (store_of b l) b stored_length (λ j g. stored_above (p + j) (omega arith))

  pub stored_place : (n : ℕ) → block_at (store_of b l) n ≡ block_at b n
  unfolding block_at
  stored_place n = rw (room_same b (store_of b l) (stored_between 11 (omega arith) (omega arith)), stored_between 12 (omega arith) (omega arith))

  pub stored_lock : (n : ℕ) → lock_on n (store_of b l) ≡ lock_on n b
  stored_lock n = lock_above n b (store_of b l) (λ j h. stored_above j (omega arith))

  pub stored_sized : Sized b → Sized (store_of b l)
  unfolding Sized
  stored_sized s =
      let e = stored_between 11 (omega arith) (omega arith) in
      rw (stored_length, room_same b (store_of b l) e, e, stored_between 12 (omega arith) (omega arith)) s

  -- ---- what it reads

  module _ (long : 25 ≤ length b) where
    long_one : 25 ≤ length (one b l)
    long_one = rw (length-sets b 8 (low l)) long

    long_two : 25 ≤ length (two b l)
    long_two = rw (length-sets (one b l) 14 (mid l)) long_one

    stored_low : (k : ℕ) → k < 3 → get_or (store_of b l) (8 + k) 0 ≡ get_or (low l) k 0
    unfolding store_of
    stored_low k h =
        sets_off (two b l) (high l) 17 (8 + k) (inl (omega arith))
        ∙ sets_off (one b l) (mid l) 14 (8 + k) (inl (omega arith))
        ∙ sets_on b (low l) 8 k h (omega arith)

    stored_mid : (k : ℕ) → k < 3 → get_or (store_of b l) (14 + k) 0 ≡ get_or (mid l) k 0
    unfolding store_of
    stored_mid k h =
        sets_off (two b l) (high l) 17 (14 + k) (inl (omega arith))
        ∙ sets_on (one b l) (mid l) 14 k h (omega (arith, long_one))

    pub stored_dsfid : get_or (store_of b l) 8 0 ≡ l.dsfid
    stored_dsfid = stored_low 0 (omega arith)

    pub stored_afi : get_or (store_of b l) 9 0 ≡ l.afi
    stored_afi = stored_low 1 (omega arith)

    pub stored_locks : get_or (store_of b l) 10 0 ≡ l.locks
    stored_locks = stored_low 2 (omega arith)

    pub stored_state : get_or (store_of b l) 14 0 ≡ l.state
    stored_state = stored_mid 0 (omega arith)

    pub stored_slot : get_or (store_of b l) 15 0 ≡ l.slot
    stored_slot = stored_mid 1 (omega arith)

    pub stored_bits : get_or (store_of b l) 16 0 ≡ l.bits
    stored_bits = stored_mid 2 (omega arith)

    pub stored_bytes : part 17 8 (store_of b l) ≡ bytes_of 8 l.mask
    unfolding store_of
    stored_bytes = part_on (two b l) (high l) 17 (omega (arith, long_two))

    pub stored_mask : l.mask < 256 ^ 8 → num (part 17 8 (store_of b l)) ≡ l.mask
    stored_mask h = ap num stored_bytes ∙ num_bytes_lt 8 l.mask h

    -- the label written, with the UID and the numbers of the body
    pub load_store : l.mask < 256 ^ 8
        → load_of (store_of b l) ≡ label l.dsfid l.afi l.locks l.state l.slot l.bits l.mask (load_of b)
    unfolding load_of
    load_store h =
        rw (
          stored_uid,
          stored_dsfid,
          stored_afi,
          stored_locks,
          stored_between 11 (omega arith) (omega arith),
          stored_between 12 (omega arith) (omega arith),
          stored_between 13 (omega arith) (omega arith),
          stored_state,
          stored_slot,
          stored_bits,
          stored_mask h,
        )

-- ---- a body's own label

-- only slot, mask length and mask anew
pub store_seek : (b : List ℕ) (s m e : ℕ) → store_of b (with_slot s m e (load_of b)) ≡ seek s m e b
unfolding store_of load_of seek
store_seek b s m e =
    ap (λ (x : List ℕ). sets (sets x 14 (get_or b 14 0 ∷ s ∷ m ∷ [])) 17 (bytes_of 8 e))
    (ap (λ (x : List ℕ). set (set x 9 (get_or b 9 0)) 10 (get_or b 10 0)) (set-get_or b 8 0)
    ∙ ap (λ (x : List ℕ). set x 10 (get_or b 10 0)) (set-get_or b 9 0)
    ∙ set-get_or b 10 0)
    ∙ ap (λ (x : List ℕ). sets (set (set x 15 s) 16 m) 17 (bytes_of 8 e)) (set-get_or b 14 0)

-- the mask's bytes are those of its number
pub mask_bytes : (b : List ℕ) → Bytes b → 25 ≤ length b → bytes_of 8 (num (part 17 8 b)) ≡ part 17 8 b
mask_bytes b f h =
    let e : length (part 17 8 b) ≡ 8 = length_part 17 8 b h in
    ap (λ (k : ℕ). bytes_of k (num (part 17 8 b))) (sym e) ∙ bytes_num (part 17 8 b) (bytes_part 17 8 b f)

pub seek_own : (b : List ℕ) → Bytes b → 25 ≤ length b → seek (get_or b 15 0) (get_or b 16 0) (num (part 17 8 b)) b ≡ b
unfolding seek
seek_own b f h =
    ap (λ (x : List ℕ). sets b 15 (get_or b 15 0 ∷ get_or b 16 0 ∷ x)) (mask_bytes b f h)
    ∙ ap (λ (x : List ℕ). sets (set x 16 (get_or b 16 0)) 17 (part 17 8 b)) (set-get_or b 15 0)
    ∙ ap (λ (x : List ℕ). sets x 17 (part 17 8 b)) (set-get_or b 16 0)
    ∙ sets_own b 17 8 h

pub store_load : (b : List ℕ) → Bytes b → 25 ≤ length b → store_of b (load_of b) ≡ b
unfolding load_of
store_load b f h = store_seek b (get_or b 15 0) (get_or b 16 0) (num (part 17 8 b)) ∙ seek_own b f h

-- bytes stay bytes
pub stored_all : (b : List ℕ) (l : Label) → Bytes b → l.dsfid < 256 → l.afi < 256 → l.locks < 256 → l.state < 256 → l.slot < 256 → l.bits < 256
    → Bytes (store_of b l)
unfolding store_of
stored_all b l f d a k s t m =
    bytes_sets (two b l) (high l) 17
    (bytes_sets (one b l) (mid l) 14
    (bytes_sets b (low l) 8 f (bytes_three l.dsfid l.afi l.locks d a k))
    (bytes_three l.state l.slot l.bits s t m))
    (bytes_small 8 l.mask)
