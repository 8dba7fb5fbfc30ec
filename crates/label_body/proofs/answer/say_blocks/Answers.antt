use mathlib.Core.List.{List, ◌∷◌}
use Prim.Native.Nat.{ℕ, ◌+◌, ◌≤◌, ◌<◌}
use mir.Val.{Fits}
use mir.Syntax.{w8}
use native.Mathlib.Omega.{arith}
use lib.ListN.{length, get_or, length-set}
use Rattle.frame.specs.Choose.{gather}
use Rattle.frame.specs.CheckSum.{framed}
use Rattle.label_body.specs.Answer.{block_bytes, blocks_bytes}
use Rattle.label_body.proofs.AnswerLaid.{laying_none, laying_same, laying_room, laying_more, laying_done, laying_least, frame_some}
use Rattle.label_body.proofs.answer.say_blocks.Goals as goal
use Rattle.label_body.proofs.answer.say_blocks.Goals.{Start, In-loop-i}

abbrev f : Start → ℕ → List ℕ
f s j = block_bytes (s.args.n + j) s.args.lock s.args.b.now

room : (s : Start) → length (framed (0 ∷ gather (s.args.more + 1) (f s))) ≤ length s.args.out.now
unfolding blocks_bytes
room s = s.requires.b_in_bounds

-- the block that is next is there
there : (c : In-loop-i) → c.args.n + c.loop-i.i ≤ get_or c.args.b.now 11 0
there c =
    omega (arith, c.requires.sized.1, c.loop-i-test.true)

byte_fits : (v : ℕ) → v < 256 → Fits w8 v
byte_fits v h = record { fits = h }

pub lay_block-at-requires : goal.lay_block-at-requires
lay_block-at-requires c =
    let run = c.loop-i.invariant in
    record {
      sized = (c.requires.sized.0, there (goal.at.lay_block-at-requires c).In-loop-i);
      b_in_bounds = omega (arith, laying_room run (omega (arith, c.loop-i-test.true)) (room (goal.at.lay_block-at-requires c).Start), simp length-set at (laying_same run));
    }

pub loop-i-preserved : goal.loop-i-preserved
loop-i-preserved c = laying_more c.loop-i.invariant (omega (arith, c.loop-i-test.true)) c.lay_block-at.ensures

pub seal-requires : goal.seal-requires
seal-requires c =
    let run = c.loop-i.invariant in
    omega (arith, laying_least run (room (goal.at.seal-requires c).Start), simp length-set at (laying_same run))

pub returns : goal.returns
unfolding blocks_bytes
returns c = laying_done c.args.out.now c.loop-i.invariant (omega (arith, c.loop-i-test.false)) (room (goal.at.returns c).Start) c.seal.ensures

pub bounds-out-0 : goal.bounds-out-0
bounds-out-0 c =
    omega (arith, frame_some (f (goal.at.bounds-out-0 c).Start) _ (room (goal.at.bounds-out-0 c).Start))

pub loop-i-init : goal.loop-i-init
loop-i-init c =
    laying_none _ _ _
