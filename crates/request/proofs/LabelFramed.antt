-- What a reader frames is what a label reads. A frame's bytes before its check sum are those that were framed; so flags and lengths compute,
-- and each target's frame is read as the call of its parameters, and an Inventory's as its mask.
-- Assumes nothing.
use Rattle.std.specs.Prelude.{if◌then◌else◌}
use mathlib.Core.Path.{◌≡◌, refl, sym, ap, ap₂, ◌∙◌}
use mathlib.Core.Bool.{Bool, true, false}
use mathlib.Core.List.{List, [], ◌∷◌, ◌++◌, append_assoc, append-nil}
use Prim.Native.Nat.{ℕ, zero, suc, ◌+◌, ◌-◌, ◌*◌, ◌/◌, ◌%◌, ◌^◌, ◌≤◌, ◌<◌}
use native.Mathlib.Nat.{mod-eq_of_lt, lt_of_lt_of_le, pow-suc}
use native.Mathlib.Omega.{arith}
use lib.Pow.{pow_mono, pow-add}
use lib.ListN.{length, get_or, take, drop, length-append}
use lib.Seq.{take_at, drop_at, get_or_at}
use borrow.Author.Tests.{le-ltb, eq-eqb}
use Rattle.frame.specs.Choose.{bit, set?}
use Rattle.frame.specs.Number.{num, bytes_of, part}
use Rattle.frame.specs.CheckSum.{crc_of, framed_with, framed}
use Rattle.frame.specs.Ending.{bytes_for, mask_at}
use Rattle.frame.proofs.CheckSumFrames.{length_framed, right_all}
use Rattle.frame.proofs.Numbers.{length_bytes, num_bytes_lt}
use Rattle.request.specs.declared.label.Target.{Target}
use Rattle.request.specs.declared.label.Target.TheVariants.{Everyone, Selected, One}
use Rattle.request.specs.declared.label.Family.{Family}
use Rattle.request.specs.declared.label.Family.TheVariants.{Any, Only}
use Rattle.request.specs.declared.label.Call.TheVariants.{Inventory, Do}
use Rattle.request.specs.declared.table.Task.TheVariants.{Select}
use Rattle.request.specs.Table.{row_of, table, lookup}
use Rattle.request.specs.Label.{bare, most, masked, inventory, both, by_row, checked, call, params, addressed, unaddressed, addressing, decode, data_of}

-- ---- a frame's bytes

long : (s : List ℕ) → length (framed s) ≡ length s + 2
long s = length_framed 0xFFFF true s

-- what stands behind the first n bytes, up to the check sum
pub params_framed : (p q : List ℕ) (n : ℕ) → length p ≡ n → params n (framed (p ++ q)) ≡ q
unfolding framed_with
params_framed p q n h =
    let r = bytes_of 2 (crc_of (p ++ q)) in
    let l : length ((p ++ q) ++ r) - 2 - n ≡ length q = omega (arith, length-append (p ++ q) r, length-append p q) in
    ap₂ take l (ap (drop n) (append_assoc p q r) ∙ drop_at p (q ++ r) n h) ∙ take_at q r (length q) refl

-- k bytes behind the first n
pub part_framed : (p u q : List ℕ) (n k : ℕ) → length p ≡ n → length u ≡ k → part n k (framed (p ++ (u ++ q))) ≡ u
unfolding framed_with
part_framed p u q n k h l =
    let r = bytes_of 2 (crc_of (p ++ (u ++ q))) in
    ap (take k)
    (ap (drop n) (append_assoc p (u ++ q) r) ∙ drop_at p ((u ++ q) ++ r) n h ∙ append_assoc u q r)
    ∙ take_at u (q ++ r) k l

pub byte_framed : (p : List ℕ) (x : ℕ) (q : List ℕ) (n : ℕ) → length p ≡ n → get_or (framed (p ++ (x ∷ q))) n 0 ≡ x
unfolding framed_with
byte_framed p x q n h =
    let r = bytes_of 2 (crc_of (p ++ (x ∷ q))) in
    ap (λ (s : List ℕ). get_or s n 0) (append_assoc p (x ∷ q) r) ∙ get_or_at p x (q ++ r) 0 n h

-- ---- flags

-- flag bits 3 and 7 clear: by the other flags
pub framed_read : (flags c : ℕ) (ps : List ℕ) → set? (bit 3 flags) ≡ false → set? (bit 7 flags) ≡ false
    → decode (framed (flags ∷ c ∷ ps)) ≡ addressing (framed (flags ∷ c ∷ ps)) flags
unfolding decode
framed_read flags c ps h l =
    let s = flags ∷ c ∷ ps in
    let n : 4 ≤ length (framed s) = omega (arith, long s) in
    rw (le-ltb (length (framed s)) 4 n, byte_framed [] flags (c ∷ ps) 0 refl, h, l, right_all s)

-- Address clear: parameters behind the code
open_back : (to : Target) (c : ℕ) (option : Bool) (flags : ℕ) (ps : List ℕ)
    → unaddressed (framed (flags ∷ c ∷ ps)) to option ≡ bare (call to c option ps)
unfolding unaddressed
open_back to c option flags ps = rw (byte_framed (flags ∷ []) c ps 1 refl, params_framed (flags ∷ c ∷ []) ps 2 refl)

-- Address set: behind the UID
addressed_back : (c : ℕ) (option : Bool) (flags : ℕ) (u ps : List ℕ) → length u ≡ 8
    → addressed (framed (flags ∷ c ∷ (u ++ ps))) option ≡ record { uid = u; call = call One c option ps }
unfolding addressed
addressed_back c option flags u ps h =
    let s = flags ∷ c ∷ (u ++ ps) in
    let n : 12 ≤ length (framed s) = omega (arith, long s, length-append u ps) in
    let l : length (flags ∷ c ∷ u) ≡ 10 = omega arith in
    rw (
      le-ltb (length (framed s)) 12 n,
      byte_framed (flags ∷ []) c (u ++ ps) 1 refl,
      part_framed (flags ∷ c ∷ []) u ps 2 8 refl h,
      params_framed (flags ∷ c ∷ u) ps 10 l,
    )

-- ---- the three targets, without Option and with it
module _ (c : ℕ) (ps : List ℕ) where
  pub everyone_back : (option : Bool) → decode (framed ((2 + (if option then 64 else 0)) ∷ c ∷ ps)) ≡ bare (call Everyone c option ps)
  unfolding addressing
  everyone_back true = framed_read 66 c ps refl refl ∙ open_back Everyone c true 66 ps
  everyone_back false = framed_read 2 c ps refl refl ∙ open_back Everyone c false 2 ps

  pub selected_back : (option : Bool) → decode (framed ((18 + (if option then 64 else 0)) ∷ c ∷ ps)) ≡ bare (call Selected c option ps)
  unfolding addressing
  selected_back true = framed_read 82 c ps refl refl ∙ open_back Selected c true 82 ps
  selected_back false = framed_read 18 c ps refl refl ∙ open_back Selected c false 18 ps

  pub one_back : (option : Bool) (u : List ℕ) → length u ≡ 8
      → decode (framed ((34 + (if option then 64 else 0)) ∷ c ∷ (u ++ ps))) ≡ record { uid = u; call = call One c option ps }
  unfolding addressing
  one_back true u h = framed_read 98 c (u ++ ps) refl refl ∙ addressed_back c true 98 u ps h
  one_back false u h = framed_read 34 c (u ++ ps) refl refl ∙ addressed_back c false 34 u ps h

-- Select: Address alone, the low two bits any
pub select_back : (flags : ℕ) (u : List ℕ) → flags / 4 ≡ 8 → length u ≡ 8
    → decode (framed (flags ∷ 0x25 ∷ u)) ≡ record { uid = u; call = Do One Select (both 0 0) false }
unfolding addressing call checked table row_of lookup by_row
select_back flags u h l =
    let at3 : flags / 2 ^ 3 ≡ 4 = omega arith in
    let at4 : flags / 2 ^ 4 ≡ 2 = omega arith in
    let at5 : flags / 2 ^ 5 ≡ 1 = omega arith in
    let at6 : flags / 2 ^ 6 ≡ 0 = omega arith in
    let at7 : flags / 2 ^ 7 ≡ 0 = omega arith in
    ap (λ (s : List ℕ). decode (framed (flags ∷ 0x25 ∷ s))) (sym (append-nil u))
    ∙ framed_read flags 0x25 (u ++ []) (rw at3) (rw at7)
    ∙ rw (h, at5, at4, at6) (addressed_back 0x25 false flags u [] l)

-- ---- the bytes of a write

pub data_open_back : (flags c n : ℕ) (d : List ℕ) → set? (bit 5 flags) ≡ false → data_of (framed (flags ∷ c ∷ n ∷ d)) ≡ d
unfolding data_of
data_open_back flags c n d h = rw (byte_framed [] flags (c ∷ n ∷ d) 0 refl, h) (params_framed (flags ∷ c ∷ n ∷ []) d 3 refl)

pub data_one_back : (flags c n : ℕ) (u d : List ℕ) → length u ≡ 8 → set? (bit 5 flags) ≡ true → data_of (framed (flags ∷ c ∷ (u ++ (n ∷ d)))) ≡ d
unfolding data_of
data_one_back flags c n u d l h =
    let p = flags ∷ c ∷ (u ++ (n ∷ [])) in
    let e : flags ∷ c ∷ (u ++ (n ∷ d)) ≡ p ++ d = ap (λ (s : List ℕ). flags ∷ c ∷ s) (sym (append_assoc u (n ∷ []) d)) in
    let m : length p ≡ 11 = omega (arith, length-append u (n ∷ [])) in
    rw (byte_framed [] flags (c ∷ (u ++ (n ∷ d))) 0 refl, h) (ap (λ (s : List ℕ). params 11 (framed s)) e ∙ params_framed p d 11 m)

-- ---- masks

pow_bytes : (n : ℕ) → 256 ^ n ≡ 2 ^ (8 * n)
pow_bytes zero = refl
pow_bytes (suc n) =
    let e : 8 * suc n ≡ 8 * n + 8 = omega arith in
    pow-suc 256 n ∙ ap (λ (x : ℕ). x * 256) (pow_bytes n) ∙ sym (ap (λ (x : ℕ). 2 ^ x) e ∙ pow-add 2 (8 * n) 8)

-- the bytes that hold m bits hold the mask
pub mask_number : (m e : ℕ) → e < 2 ^ m → num (bytes_of (bytes_for m) e) ≡ e
unfolding bytes_for
mask_number m e h =
    let n = (m + 7) / 8 in
    let l : m ≤ 8 * n = omega arith in
    num_bytes_lt n e (rw (pow_bytes n) (lt_of_lt_of_le h (pow_mono l)))

module _ (m e : ℕ) (h : e < 2 ^ m) (p : List ℕ) (at : ℕ) (q : length p ≡ at) where
  abbrev bs : List ℕ
  bs = bytes_of (bytes_for m) e

  mask_back : mask_at (framed (p ++ (m ∷ bs))) (at + 1) m ≡ e
  unfolding mask_at
  mask_back =
      let l : length (p ++ (m ∷ [])) ≡ at + 1 = omega (arith, length-append p (m ∷ [])) in
      let r : p ++ (m ∷ bs) ≡ (p ++ (m ∷ [])) ++ (bs ++ []) =
      ap (λ (s : List ℕ). p ++ (m ∷ s)) (sym (append-nil bs)) ∙ sym (append_assoc p (m ∷ []) (bs ++ []))
      in
      ap (λ (s : List ℕ). num (part (at + 1) (bytes_for m) (framed s)) % 2 ^ m) r
      ∙ ap (λ (s : List ℕ). num s % 2 ^ m) (part_framed (p ++ (m ∷ [])) bs [] (at + 1) (bytes_for m) l (length_bytes (bytes_for m) e))
      ∙ ap (λ (n : ℕ). n % 2 ^ m) (mask_number m e h)
      ∙ mod-eq_of_lt h

  masked_back : (family : Family) (sixteen : Bool) → m ≤ most sixteen → masked family sixteen at (framed (p ++ (m ∷ bs))) ≡ bare (Inventory family sixteen m e)
  unfolding masked
  masked_back family sixteen l =
      let f = framed (p ++ (m ∷ bs)) in
      let n : length f ≡ at + 3 + bytes_for m = omega (arith, long (p ++ (m ∷ bs)), length-append p (m ∷ bs), length_bytes (bytes_for m) e) in
      rw (byte_framed p m bs at q, le-ltb (most sixteen) m l, eq-eqb (length f) (at + 3 + bytes_for m) n, mask_back)

-- ---- Inventory: sixteen slots or one, any family or one
module _ (m e : ℕ) (h : e < 2 ^ m) where
  pub sixteen_back : m ≤ 60 → decode (framed (6 ∷ 1 ∷ m ∷ bytes_of (bytes_for m) e)) ≡ bare (Inventory Any true m e)
  unfolding addressing inventory
  sixteen_back l =
      let q = m ∷ bytes_of (bytes_for m) e in
      framed_read 6 1 q refl refl
      ∙ rw (byte_framed [] 6 (1 ∷ q) 0 refl, byte_framed (6 ∷ []) 1 q 1 refl) (masked_back m e h (6 ∷ 1 ∷ []) 2 refl Any true l)

  pub one_slot_back : m ≤ 64 → decode (framed (38 ∷ 1 ∷ m ∷ bytes_of (bytes_for m) e)) ≡ bare (Inventory Any false m e)
  unfolding addressing inventory
  one_slot_back l =
      let q = m ∷ bytes_of (bytes_for m) e in
      framed_read 38 1 q refl refl
      ∙ rw (byte_framed [] 38 (1 ∷ q) 0 refl, byte_framed (38 ∷ []) 1 q 1 refl) (masked_back m e h (38 ∷ 1 ∷ []) 2 refl Any false l)

  pub sixteen_afi_back : (afi : ℕ) → m ≤ 60 → decode (framed (22 ∷ 1 ∷ afi ∷ m ∷ bytes_of (bytes_for m) e)) ≡ bare (Inventory (Only afi) true m e)
  unfolding addressing inventory
  sixteen_afi_back afi l =
      let q = m ∷ bytes_of (bytes_for m) e in
      framed_read 22 1 (afi ∷ q) refl refl
      ∙ rw (byte_framed [] 22 (1 ∷ afi ∷ q) 0 refl, byte_framed (22 ∷ []) 1 (afi ∷ q) 1 refl, byte_framed (22 ∷ 1 ∷ []) afi q 2 refl)
      (masked_back m e h (22 ∷ 1 ∷ afi ∷ []) 3 refl (Only afi) true l)

  pub one_slot_afi_back : (afi : ℕ) → m ≤ 64 → decode (framed (54 ∷ 1 ∷ afi ∷ m ∷ bytes_of (bytes_for m) e)) ≡ bare (Inventory (Only afi) false m e)
  unfolding addressing inventory
  one_slot_afi_back afi l =
      let q = m ∷ bytes_of (bytes_for m) e in
      framed_read 54 1 (afi ∷ q) refl refl
      ∙ rw (byte_framed [] 54 (1 ∷ afi ∷ q) 0 refl, byte_framed (54 ∷ []) 1 (afi ∷ q) 1 refl, byte_framed (54 ∷ 1 ∷ []) afi q 2 refl)
      (masked_back m e h (54 ∷ 1 ∷ afi ∷ []) 3 refl (Only afi) false l)
