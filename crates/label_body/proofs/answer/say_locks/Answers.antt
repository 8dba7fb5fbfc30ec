-- 00 is laid, and the frame of it and the locks over it: they stand side by side in the body.
-- Assumes nothing.
use mathlib.Core.Path.{◌≡◌, refl}
use mathlib.Core.List.{[], ◌∷◌}
use Prim.Native.Nat.{◌+◌, ◌≤◌}
use native.Mathlib.Omega.{arith}
use lib.ListN.{length, length-set}
use Rattle.frame.specs.Choose.{gather}
use Rattle.frame.specs.Number.{part}
use Rattle.frame.proofs.CheckSumFrames.{length_framed}
use Rattle.frame.proofs.Puts.{laid_part}
use Rattle.frame.proofs.Stores.{length_part}
use Rattle.label_body.specs.Locks.{lock_room, lock_on}
use Rattle.label_body.specs.Answer.{locks_bytes, answer_frame}
use Rattle.label_body.proofs.BodyRoom.{locks_fit}
use Rattle.label_body.proofs.LocksLaws.{locks_part}
use Rattle.label_body.proofs.answer.say_locks.Goals as goal
use Rattle.label_body.proofs.answer.say_locks.Goals.{Start}

-- the locks are there
there : (c : Start) → 32 + c.args.n + (c.args.more + 1) ≤ length c.args.b.now
unfolding lock_room
there c = omega (arith, locks_fit c.args.b.now c.requires.sized.0, c.requires.sized.1)

-- and are what the definition gathers
same : (c : Start) → gather (c.args.more + 1) (λ i. lock_on (c.args.n + i) c.args.b.now ∷ []) ≡ part (32 + c.args.n) (c.args.more + 1) c.args.b.now
same c = locks_part c.args.b.now c.args.n (c.args.more + 1) (there c)

room : (c : Start) → c.args.more + 4 ≤ length c.args.out.now
unfolding answer_frame locks_bytes
room c =
    let b = c.args.b.now in
    let k = c.args.more + 1 in
    omega (arith, rw (same c, length_framed, length_part (32 + c.args.n) k b (there c)) at c.requires.b_in_bounds)

pub bounds-out-0 : goal.bounds-out-0
bounds-out-0 c = omega (arith, room (goal.at.bounds-out-0 c).Start)

pub seal_part-requires : goal.seal_part-requires
seal_part-requires c =
    let s = (goal.at.seal_part-requires c).Start in
    (omega (arith, there s, c.lock_place.ensures), simp length-set (omega (arith, room s)))

pub returns : goal.returns
unfolding answer_frame locks_bytes
returns c =
    let s = (goal.at.returns c).Start in
    let b = c.args.b.now in
    let k = c.args.more + 1 in
    let p = length_part (32 + c.args.n) k b (there s) in
    let e = rw c.lock_place.ensures at c.seal_part.ensures in
    let l = laid_part {xs = 0 ∷ []} {old = c.args.out.now} (part (32 + c.args.n) k b) (record { long = refl; is = refl }) (omega (arith, room s)) p e in
    rw (same s) (l.long, l.is)
