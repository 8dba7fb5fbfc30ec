-- When a bit can be added to a byte. Assumes nothing.
use mathlib.Core.Path.{◌≡◌}
use Prim.Native.Nat.{ℕ, zero, suc, ◌+◌, ◌*◌, ◌/◌, ◌%◌, ◌^◌, ◌≤◌, ◌<◌}
use native.Mathlib.Omega.{arith}

-- a bit that is clear, the lowest or the next, can be added to a byte
pub lock_fits : (n at : ℕ) → n < 256 → at ≤ 1 → (n / 2 ^ at % 2 ≡ 1 → ⊥) → n + 1 * 2 ^ at % 256 < 256
lock_fits n zero h l z = omega arith
lock_fits n (suc zero) h l z = omega arith
lock_fits n (suc (suc at)) h l z = absurd (omega arith)
