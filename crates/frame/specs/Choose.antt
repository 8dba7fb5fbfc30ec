-- A choice by a test, and a bit of a number. Assumes nothing.
use Rattle.std.specs.Prelude.{Bool, true, ◌&&◌, List, [], ◌++◌, ℕ, zero, suc, ◌/◌, ◌%◌, ◌^◌, eqb}

-- bit k of x; bits count from 0
abbrev pub bit : ℕ → ℕ → ℕ
bit k x = x / 2 ^ k % 2

-- a bit as a test
abbrev pub set? : ℕ → Bool
set? b = eqb b 1

-- f 0, f 1, .. and f (n - 1)
unfoldable pub all_of : ℕ → (ℕ → Bool) → Bool
all_of zero f = true
all_of (suc n) f = all_of n f && f n

-- f 0 ++ f 1 ++ .. ++ f (n - 1)
unfoldable pub gather : {A : Type 0} → ℕ → (ℕ → List A) → List A
gather zero f = []
gather (suc n) f = gather n f ++ f n
