-- The judge's own steps: a byte of the mask against the mask's length, by how many bits are left for it; the loop over the mask's eight bytes;
-- a body that its head's rules allow is long enough for its locks.
-- Assumes nothing.
use mathlib.Core.Path.{◌≡◌, refl, sym, ◌∙◌}
use mathlib.Core.Bool.{Bool, true, false, not}
use mathlib.Core.List.{List}
use Prim.Native.Nat.{ℕ, zero, suc, ◌+◌, ◌-◌, ◌*◌, ◌^◌, ◌≤◌, ◌<◌}
use native.Mathlib.Nat.{mul-le-mul}
use native.Mathlib.Omega.{arith}
use lib.Dec.{eqb, ltb, leb}
use lib.Pow.{pow_mono}
use lib.ListN.{length, get_or}
use borrow.Author.Tests.{le-leb, lt-leb, ne_eqb, eqb-true, not-false}
use Rattle.frame.specs.declared.verdict.Rule.TheVariants.{Body}
use Rattle.frame.specs.Judge.{fine, bad, first_of}
use Rattle.frame.proofs.Judge.{first_more, first_bad, if_fine}
use Rattle.label_body.specs.Locks.{lock_room}
use Rattle.label_body.specs.Body.{wanted_of, Sized, head_rules, over, mask_verdict}

-- ---- one byte of the mask
module _ (b : List ℕ) (j : ℕ) where
  -- no bit is left for it
  pub over_none : get_or b 16 0 ≤ 8 * j → over b j ≡ not (eqb (get_or b (17 + j) 0) 0)
  unfolding over
  over_none h = let z : get_or b 16 0 - 8 * j ≡ 0 = omega arith in rw z (go (get_or b (17 + j) 0))
    where
      go : (v : ℕ) → leb 1 v ≡ not (eqb v 0)
      go zero = refl
      go (suc v) = rw (ne_eqb (suc v) 0 (λ (e : suc v ≡ 0). cc)) (le-leb 1 (suc v) (omega arith))

  -- eight or more are left
  pub over_all : 8 ≤ get_or b 16 0 - 8 * j → get_or b (17 + j) 0 < 256 → over b j ≡ false
  unfolding over
  over_all h l = let p : 2 ^ 8 ≤ 2 ^ (get_or b 16 0 - 8 * j) = pow_mono h in lt-leb (2 ^ (get_or b 16 0 - 8 * j)) (get_or b (17 + j) 0) (omega arith)

  pub over_part : {r : ℕ} → r ≡ 2 ^ (get_or b 16 0 - 8 * j) → over b j ≡ leb r (get_or b (17 + j) 0)
  unfolding over
  over_part e = rw e

-- ---- the loop
module _ (b : List ℕ) (i : ℕ) where
  pub verdict_bad : over b i ≡ true → mask_verdict b i ≡ bad Body (17 + i)
  unfolding mask_verdict
  verdict_bad e = rw e

  pub verdict_fine : over b i ≡ false → mask_verdict b i ≡ fine
  unfolding mask_verdict
  verdict_fine e = rw e

  module _ (none : first_of i (mask_verdict b) ≡ fine) where
    pub mask_bad : i < 8 → {t : Bool} → t ≡ over b i → t ≡ true → bad Body (17 + i) ≡ first_of 8 (mask_verdict b)
    mask_bad h e z = first_bad (mask_verdict b) 8 i (record { rule = Body; place = 17 + i }) h none (verdict_bad (sym e ∙ z))

    pub mask_fine : {t : Bool} → t ≡ over b i → t ≡ false → first_of (i + 1) (mask_verdict b) ≡ fine
    mask_fine e z = first_more (mask_verdict b) i none (verdict_fine (sym e ∙ z))

-- ---- lengths

-- what the numbers inside a body ask for is little
pub wanted_le : (m n : ℕ) → m < 256 → n < 256 → (m + 1) * (n + 1) ≤ 65536
wanted_le m n h k = mul-le-mul {n₁ = m + 1} {m₁ = n + 1} {n₂ = 256} {m₂ = 256} (omega arith) (omega arith)

pub head_sized : (b : List ℕ) → head_rules b ≡ fine → Sized b
unfolding head_rules Sized
head_sized b e =
    let n = wanted_of b in
    let p = if_fine (ltb 3 (get_or b 10 0)) Body 10 _ e in
    eqb-true _ _ (not-false (eqb (length b) n) (if_fine (not (eqb (length b) n)) Body 11 _ p.1).0)

pub head_long : (b : List ℕ) → head_rules b ≡ fine → 32 + lock_room b ≤ length b
unfolding Sized
head_long b e = let s : Sized b = head_sized b e in omega (arith, s)
