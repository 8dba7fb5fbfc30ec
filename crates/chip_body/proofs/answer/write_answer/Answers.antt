-- Each arm lays its frame; its length is the content's and two.
-- Assumes nothing.
use mathlib.Core.Path.{refl}
use mathlib.Core.List.{[], ◌∷◌}
use native.Mathlib.Omega.{arith}
use Rattle.frame.specs.Number.{part}
use Rattle.frame.specs.CheckSum.{framed}
use Rattle.chip_body.specs.Answer.{answer_frame}
use Rattle.chip_body.proofs.BodyShapes.{place_fits}
use Rattle.chip_body.proofs.AnswerFrames.{answered, framed_part, framed_one, id_room, block_room, uid_room}
use Rattle.chip_body.proofs.answer.write_answer.Goals as goal

pub say_id-requires : goal.say_id-requires
unfolding answer_frame
say_id-requires c =
    id_room _ _ _ c.requires.1 _ c.in-Id.is

pub seal_part-requires : goal.seal_part-requires
unfolding answer_frame
seal_part-requires c =
    let n = c.in-Block in
    let pre = c.requires in
    (omega (arith, c.place-at.ensures, place_fits n.n, pre.0), omega (arith, block_room _ _ _ pre.1 _ n.is pre.0))

pub seal_part-requires-in-Uid : goal.seal_part-requires-in-Uid
unfolding answer_frame
seal_part-requires-in-Uid c =
    let pre = c.requires in
    (omega (arith, pre.0), omega (arith, uid_room _ _ _ pre.1 c.in-Uid.is pre.0))

pub returns-in-Silent : goal.returns-in-Silent
unfolding answer_frame
returns-in-Silent c =
    rw c.in-Silent.is (refl, refl)

pub returns-in-Id : goal.returns-in-Id
unfolding answer_frame
returns-in-Id c =
    let a = c.args in
    let v = c.in-Id in
    answered (framed (v.id ∷ [])) (answer_frame a.a a.b.now) a.out.now c.say_id.ensures (rw v.is) (framed_one v.id)

pub returns-in-Block : goal.returns-in-Block
unfolding answer_frame
returns-in-Block c =
    let a = c.args in
    let v = c.in-Block in
    let p = c.place-at.result in
    let b = a.b.now in
    answered (framed (part p 4 b)) (answer_frame a.a b) a.out.now c.seal_part.ensures (rw (c.place-at.ensures, v.is))
    (framed_part p 4 a.b.now (omega (arith, c.place-at.ensures, place_fits v.n, c.requires.0)))

pub returns-in-Uid : goal.returns-in-Uid
unfolding answer_frame
returns-in-Uid c =
    let a = c.args in
    let b = a.b.now in
    answered (framed (part 68 8 b)) (answer_frame a.a b) a.out.now c.seal_part-in-Uid.ensures (rw c.in-Uid.is)
    (framed_part 68 8 a.b.now (omega (arith, c.requires.0)))
