-- The bytes of a mask are the first of its 32. Assumes nothing.
use mathlib.Core.Path.{◌≡◌, refl, ap, ◌∙◌}
use mathlib.Core.List.{List, ◌∷◌}
use Prim.Native.Nat.{ℕ, zero, suc, ◌+◌, ◌-◌, ◌/◌, ◌%◌, ◌≤◌, ◌<◌}
use native.Mathlib.Omega.{arith}
use lib.ListN.{take, replicate}
use lib.Seq.{sets}
use Rattle.frame.specs.Number.{bytes_of}
use Rattle.frame.specs.Ending.{bytes_for}

bytes_front : (k n m : ℕ) → k ≤ n → take k (bytes_of n m) ≡ bytes_of k m
bytes_front zero n m h = refl
bytes_front (suc k) zero m h = absurd (omega arith)
bytes_front (suc k) (suc n) m h = ap (λ (l : List ℕ). m % 256 ∷ l) (bytes_front k n (m / 256) (omega arith))

-- 32 zeros with all 32 bytes over them, and the first of those
pub mask_bytes : (bits mask : ℕ) {bytes : List ℕ} → bits < 256 → bytes ≡ sets (replicate 32 0) 0 (bytes_of 32 mask)
    → take ((bits + 7) / 8 - 0) bytes ≡ bytes_of (bytes_for bits) mask
unfolding bytes_for
mask_bytes bits mask h e =
    let z : (bits + 7) / 8 - 0 ≡ (bits + 7) / 8 = omega arith in
    rw z (ap (take ((bits + 7) / 8)) e ∙ bytes_front ((bits + 7) / 8) 32 mask (omega arith))
