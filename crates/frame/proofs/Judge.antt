-- Verdicts. What a fine verdict tells, by the cases of its tests; and a loop that stops at the first offence, by induction on how many were judged.
-- Assumes nothing.
use Rattle.std.specs.Prelude.{if◌then◌else◌, Ok, Err}
use mathlib.Core.Path.{◌≡◌, refl, sym, ◌∙◌}
use mathlib.Core.Logic.{⊎_elim}
use mathlib.Core.List.{List}
use mathlib.Core.Bool.{Bool, true, false}
use Prim.Native.Nat.{ℕ, zero, suc, ◌+◌, ◌≤◌, ◌<◌}
use native.Mathlib.Numerals.{add-one}
use native.Mathlib.Nat.{eq-or-lt_of_le}
use native.Mathlib.Omega.{arith}
use lib.Dec.{ltb}
use lib.ListN.{length, get_or, take, drop, length-take, length-drop}
use Rattle.std.specs.Prelude.{All}
use Rattle.std.proofs.lemmas.List.Elements.{All-get_or, All-from_get_or}
use Rattle.std.proofs.lemmas.Nat.{le_or_l, le_or_r}
use Rattle.std.specs.Int.Bits.{bit_or}
use Rattle.std.proofs.lemmas.List.{get_or-drop, get_or-take, take_all, length-take-le}
use Rattle.frame.specs.Number.{part}
use borrow.Author.Tests.{lt-ltb, le-ltb, ltb-false}
use Rattle.frame.specs.declared.verdict.Offence.{Offence}
use Rattle.frame.specs.declared.verdict.Rule.{Rule}
use Rattle.frame.specs.Judge.{Verdict, Body, fine, bad, or_else, first_of, byte_verdict}

-- ---- one test, and one verdict after another

pub if_fine : (t : Bool) (rule : Rule) (p : ℕ) (v : Verdict) → (if t then bad rule p else v) ≡ fine → (t ≡ false) × (v ≡ fine)
if_fine true rule p v e = absurd (cc)
if_fine false rule p v e = (refl, e)

pub else_fine : (v w : Verdict) → or_else v w ≡ fine → (v ≡ fine) × (w ≡ fine)
else_fine (Ok u) w e = (refl, e)
else_fine (Err o) w e = absurd (cc)

pub else_bad : (v w : Verdict) → (v ≡ fine → ⊥) → or_else v w ≡ v
else_bad (Ok u) w h = absurd (h refl)
else_bad (Err o) w h = refl

pub else_next : (v w : Verdict) → v ≡ fine → or_else v w ≡ w
else_next v w h = rw h

-- ---- the first offence
module _ (f : ℕ → Verdict) where
  pub first_none : first_of 0 f ≡ fine
  unfolding first_of
  first_none = refl

  pub first_suc : (n : ℕ) → first_of (suc n) f ≡ or_else (first_of n f) (f n)
  unfolding first_of
  first_suc n = refl

  -- one more that is fine
  pub first_more : (n : ℕ) → first_of n f ≡ fine → f n ≡ fine → first_of (n + 1) f ≡ fine
  first_more n p q = rw (add-one, first_suc, p, q)

  -- the first that is not
  pub first_stops : (n i : ℕ) → i < n → first_of i f ≡ fine → (f i ≡ fine → ⊥) → first_of n f ≡ f i
  first_stops zero i h p z = absurd (omega arith)
  first_stops (suc n) i h p z =
      let m : i ≤ n = omega arith in
      first_suc n
      ∙ ⊎_elim
      (λ (q : i ≡ n). rw (← q, p))
      (λ (q : i < n). rw (first_stops n i q p z) (else_bad (f i) (f n) z))
      (eq-or-lt_of_le m)

  pub first_bad : (n i : ℕ) (o : Offence) → i < n → first_of i f ≡ fine → f i ≡ Err o → Err o ≡ first_of n f
  first_bad n i o h q v = sym (first_stops n i h q (λ (y : f i ≡ fine). cc) ∙ v)

  -- where all is fine, each is
  pub first_each : (n i : ℕ) → first_of n f ≡ fine → i < n → f i ≡ fine
  first_each zero i e h = absurd (omega arith)
  first_each (suc n) i e h =
      let m : i ≤ n = omega arith in
      let p = else_fine (first_of n f) (f n) (rw first_suc at e) in
      ⊎_elim
      (λ (q : i ≡ n). rw q p.1)
      (λ (q : i < n). first_each n i p.0 q)
      (eq-or-lt_of_le m)

  -- and where each is fine, all is
  pub first_all : (n : ℕ) → ((i : ℕ) → i < n → f i ≡ fine) → first_of n f ≡ fine
  first_all zero h = first_none
  first_all (suc n) h = rw (first_suc, first_all n (λ i l. h i (omega arith)), h n (omega arith))

-- ---- a loop over bytes that stops at the first one above `most`
module _ (b : List ℕ) (at most : ℕ) where
  over : (j : ℕ) → most < get_or b (at + j) 0 → byte_verdict b at most j ≡ bad Body (at + j)
  unfolding byte_verdict
  over j z = rw (lt-ltb _ _ z)

  within : (j : ℕ) → get_or b (at + j) 0 ≤ most → byte_verdict b at most j ≡ fine
  unfolding byte_verdict
  within j z = rw (le-ltb _ _ z)

  kept : (j : ℕ) → byte_verdict b at most j ≡ fine → get_or b (at + j) 0 ≤ most
  unfolding byte_verdict
  kept j e = ltb-false _ _ (if_fine (ltb most (get_or b (at + j) 0)) Body (at + j) fine e).0

  module _ (n i : ℕ) (h : i < n) (none : first_of i (byte_verdict b at most) ≡ fine) where
    pub byte_bad : most < get_or b (at + i) 0 → bad Body (at + i) ≡ first_of n (byte_verdict b at most)
    byte_bad z = first_bad (byte_verdict b at most) n i (record { rule = Body; place = at + i }) h none (over i z)

    pub byte_fine : get_or b (at + i) 0 ≤ most → first_of (i + 1) (byte_verdict b at most) ≡ fine
    byte_fine z = first_more (byte_verdict b at most) i none (within i z)

  -- a fine verdict on bytes tells that each keeps its bound ..
  pub bytes_fine : (count : ℕ) → first_of count (byte_verdict b at most) ≡ fine → (j : ℕ) → j < count → get_or b (at + j) 0 ≤ most
  bytes_fine count e j h = kept j (first_each (byte_verdict b at most) count j e h)

  -- .. and bytes that keep it get one
  pub bytes_good : (count : ℕ) → ((j : ℕ) → j < count → get_or b (at + j) 0 ≤ most) → first_of count (byte_verdict b at most) ≡ fine
  bytes_good count h = first_all (byte_verdict b at most) count (λ j l. within j (h j l))

  -- so do those of a part that is within it, all together
  pub part_good : (n : ℕ) → at + n ≤ length b → All (λ (byte : ℕ). byte ≤ most) (part at n b) → first_of n (byte_verdict b at most) ≡ fine
  part_good n k h =
      bytes_good n (λ j i.
      let p : get_or (part at n b) j 0 ≤ most = All-get_or (λ (byte : ℕ). byte ≤ most) (part at n b) j 0 (rw (length-take n (drop at b), length-drop at b) (omega arith)) h in
      let e : get_or (part at n b) j 0 ≡ get_or b (at + j) 0 = get_or-take n (drop at b) j 0 i ∙ get_or-drop at b j 0 in
      omega (arith, p, e))

-- ---- bytes put together, one by one: all of them so far are at most what they give
module _ (s : List ℕ) where
  pub together_none : All (λ (byte : ℕ). byte ≤ 0) (take 0 s)
  together_none k d h = absurd (omega arith)

  pub together_more : (i m : ℕ) → i < length s → All (λ (byte : ℕ). byte ≤ m) (take i s) → All (λ (byte : ℕ). byte ≤ bit_or m (get_or s i 0)) (take (i + 1) s)
  together_more i m h all =
      All-from_get_or (λ (byte : ℕ). byte ≤ bit_or m (get_or s i 0)) (take (i + 1) s) 0 (λ j (k : j < length (take (i + 1) s)).
      let l : length (take (i + 1) s) ≡ i + 1 = length-take-le (i + 1) s (omega arith) in
      let e : get_or (take (i + 1) s) j 0 ≡ get_or s j 0 = get_or-take (i + 1) s j 0 (omega (arith, l)) in
      let t : j ≤ i = omega (arith, l) in
      rw e (⊎_elim
      (λ (q : j ≡ i). rw q (le_or_r m (get_or s i 0)))
      (λ (q : j < i).
      let p : get_or (take i s) j 0 ≤ m = All-get_or (λ (byte : ℕ). byte ≤ m) (take i s) j 0 (rw (length-take-le i s (omega arith)) q) all in
      let f : get_or (take i s) j 0 ≡ get_or s j 0 = get_or-take i s j 0 q in
      let w : m ≤ bit_or m (get_or s i 0) = le_or_l m (get_or s i 0) in
      omega (arith, p, f, w))
      (eq-or-lt_of_le t)))

  pub together_all : (i m : ℕ) → length s ≤ i → All (λ (byte : ℕ). byte ≤ m) (take i s) → All (λ (byte : ℕ). byte ≤ m) s
  together_all i m h all = rw (take_all i s h) at all

  pub within_together : (m most : ℕ) → All (λ (byte : ℕ). byte ≤ m) s → m ≤ most → All (λ (byte : ℕ). byte ≤ most) s
  within_together m most all h = All-from_get_or (λ (byte : ℕ). byte ≤ most) s 0 (λ j k. let p : get_or s j 0 ≤ m = All-get_or (λ (byte : ℕ). byte ≤ m) s j 0 k all in omega (arith, p))
