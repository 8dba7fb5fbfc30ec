-- What the work of a step leaves: blocks and locks stand behind the first 32 bytes, and blocks behind locks.
-- Assumes nothing.
use Rattle.std.specs.Prelude.{Option, None, Some}
use mathlib.Core.Path.{◌≡◌, refl}
use mathlib.Core.Logic.{inl}
use mathlib.Core.List.{List}
use Prim.Native.Nat.{ℕ, ◌+◌, ◌≤◌, ◌<◌}
use native.Mathlib.Omega.{arith}
use lib.ListN.{length, get_or}
use lib.Seq.{length-sets}
use Rattle.frame.specs.Number.{part, Bytes}
use Rattle.frame.proofs.Stores.{sets_off, part_ext, bytes_sets}
use Rattle.label.specs.declared.step.Work.{Work}
use Rattle.label.specs.declared.step.Work.TheVariants as w
use Rattle.label_body.specs.Locks.{LocksFine}
use Rattle.label_body.specs.Body.{worked, block_at, Sized}
use Rattle.label_body.specs.Facts.{WorkFits}
use Rattle.label_body.proofs.LocksLaws.{room_same, fine_same, with_length, with_below, with_bytes, with_fine}
use Rattle.label_body.proofs.BodyRoom.{block_after, locks_before}

pub worked_length : (x : Option Work) (bytes b : List ℕ) → length (worked x bytes b) ≡ length b
unfolding worked
worked_length None bytes b = refl
worked_length (Some (w.Write n)) bytes b = length-sets b (block_at b n) bytes
worked_length (Some (w.Lock n)) bytes b = with_length n b

pub worked_below : (x : Option Work) (bytes b : List ℕ) (j : ℕ) → j < 32 → get_or (worked x bytes b) j 0 ≡ get_or b j 0
unfolding worked
worked_below None bytes b j h = refl
worked_below (Some (w.Write n)) bytes b j h = let g = block_after b n in sets_off b bytes (block_at b n) j (inl (omega arith))
worked_below (Some (w.Lock n)) bytes b j h = with_below n b j h

pub worked_part : (x : Option Work) (bytes b : List ℕ) (p k : ℕ) → p + k ≤ 32 → part p k (worked x bytes b) ≡ part p k b
worked_part x bytes b p k h = part_ext p k (worked x bytes b) b (worked_length x bytes b) (λ j g. worked_below x bytes b (p + j) (omega arith))

pub worked_sized : (x : Option Work) (bytes b : List ℕ) → Sized b → Sized (worked x bytes b)
unfolding Sized
worked_sized x bytes b s =
    let e = worked_below x bytes b 11 (omega arith) in
    rw (worked_length x bytes b, room_same b (worked x bytes b) e, e, worked_below x bytes b 12 (omega arith)) s

-- the locks keep their rules
pub worked_locks : (x : Option Work) (bytes b : List ℕ) → Bytes b → WorkFits x (length bytes) b → LocksFine b → LocksFine (worked x bytes b)
unfolding worked WorkFits
worked_locks None bytes b s h g = g
worked_locks (Some (w.Write n)) bytes b s h g =
    fine_same b (worked (Some (w.Write n)) bytes b) (worked_below (Some (w.Write n)) bytes b 11 (omega arith))
    (λ j l m. sets_off b bytes (block_at b n) j (inl (omega (arith, locks_before b n)))) g
worked_locks (Some (w.Lock n)) bytes b s h g = with_fine n b s h g

pub worked_bytes : (x : Option Work) (bytes b : List ℕ) → Bytes bytes → Bytes b → Bytes (worked x bytes b)
unfolding worked
worked_bytes None bytes b f g = g
worked_bytes (Some (w.Write n)) bytes b f g = bytes_sets b bytes (block_at b n) g f
worked_bytes (Some (w.Lock n)) bytes b f g = with_bytes n b g
