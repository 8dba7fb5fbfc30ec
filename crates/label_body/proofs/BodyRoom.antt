-- A body of the length that its numbers ask for has room for its locks and each of its blocks.
-- Assumes nothing.
use mathlib.Core.Path.{◌≡◌}
use mathlib.Core.List.{List}
use Prim.Native.Nat.{ℕ, suc, ◌+◌, ◌*◌, ◌≤◌, ◌<◌}
use native.Mathlib.Nat.{mul-le-mul, mul-le-mul_right, suc-mul}
use native.Mathlib.Omega.{arith}
use lib.ListN.{length, get_or}
use Rattle.label_body.specs.Locks.{lock_room}
use Rattle.label_body.specs.Body.{Sized, block_at, blocks_of, size_of}

pub sized_long : (b : List ℕ) → Sized b → 32 ≤ length b
unfolding Sized
sized_long b s = rw s (omega arith)

pub locks_fit : (b : List ℕ) → Sized b → 32 + lock_room b ≤ length b
unfolding Sized
locks_fit b s = rw s (omega arith)

-- the locks stand before the blocks
pub locks_before : (b : List ℕ) (n : ℕ) → 32 + lock_room b ≤ block_at b n
unfolding block_at
locks_before b n = omega arith

pub block_after : (b : List ℕ) (n : ℕ) → 32 ≤ block_at b n
unfolding block_at
block_after b n = omega arith

-- a block ends where the next one starts, or before
pub block_next : (b : List ℕ) (n m : ℕ) → n < m → block_at b n + size_of b ≤ block_at b m
unfolding block_at
block_next b n m h =
    let g : suc n * size_of b ≤ m * size_of b = mul-le-mul_right (size_of b) h in
    omega (arith, suc-mul n (size_of b))

pub block_fits : (b : List ℕ) (n : ℕ) → Sized b → n ≤ get_or b 11 0 → block_at b n + size_of b ≤ length b
unfolding Sized block_at
block_fits b n s h = rw s (block_next b n (blocks_of b) (omega arith))

-- the same of a place that is the block's
pub block_inside : (b : List ℕ) (n at : ℕ) → at ≡ block_at b n → Sized b → n ≤ get_or b 11 0 → at + size_of b ≤ length b
block_inside b n at p s h = rw p (block_fits b n s h)

-- and its place is a small number
pub place_small : (n s : ℕ) → n < 256 → s < 256 → n * (s + 1) ≤ 65280
place_small n s h g = mul-le-mul {n₂ = 255} {m₂ = 256} (omega arith) (omega arith)
