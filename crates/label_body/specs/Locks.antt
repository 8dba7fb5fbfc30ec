-- Document 01, "Rack file": the locks of a label's blocks, behind the first 32 bytes of its body. What a lock is, is said here alone. Assumes nothing.
use Rattle.std.specs.Prelude.{List, ℕ, ◌+◌, ◌≤◌, ◌<◌, get_or, set}
use Rattle.frame.specs.Judge.{Verdict, first_of, byte_verdict}

-- one lock byte for each block; blocks less 1 is byte 11
unfoldable pub lock_room : List ℕ → ℕ
lock_room b = get_or b 11 0 + 1

-- the lock of block n: 0 or 1
unfoldable pub lock_on : ℕ → List ℕ → ℕ
lock_on n b = get_or b (32 + n) 0

-- block n locked
unfoldable pub with_lock : ℕ → List ℕ → List ℕ
with_lock n b = set b (32 + n) 1

-- lock bytes, 0 or 1
unfoldable pub locks_verdict : List ℕ → Verdict
locks_verdict b = first_of (get_or b 11 0 + 1) (byte_verdict b 32 1)

unfoldable pub LocksFine : List ℕ → Type 0
LocksFine b = (j : ℕ) → j < get_or b 11 0 + 1 → get_or b (32 + j) 0 ≤ 1
