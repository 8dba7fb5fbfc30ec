-- The arms of the definition: two short frames are laid here, the others by their own functions.
-- Assumes nothing.
use mathlib.Core.Path.{refl}
use mathlib.Core.Bool.{true}
use mathlib.Core.List.{[], ◌∷◌}
use Prim.Native.Nat.{◌≤◌}
use native.Mathlib.Omega.{arith}
use lib.ListN.{length, length-set}
use Rattle.label_body.specs.Answer.{answer_frame}
use Rattle.label_body.specs.Facts.{AnswerFits}
use Rattle.frame.proofs.Puts.{laid_seal}
use Rattle.label_body.proofs.AnswerLaid.{error_room, done_room}
use Rattle.label_body.proofs.answer.write_answer.Goals as goal
use Rattle.label_body.proofs.answer.write_answer.Goals.{In-Done, In-Error}

-- the room of the two frames that are laid here
error : (c : In-Error) → 4 ≤ length c.args.out.now
error c =
    error_room _ _ _ c.requires.b_in_bounds _ c.in-Error.is

done : (c : In-Done) → 3 ≤ length c.args.out.now
done c =
    done_room _ _ _ c.requires.b_in_bounds c.in-Done.is

pub returns-in-Error : goal.returns-in-Error
unfolding answer_frame AnswerFits
returns-in-Error c =
    let old = c.args.out.now in
    let l =
    laid_seal 0xFFFF true {xs = 1 ∷ c.in-Error.code ∷ []} {old = old} (record { long = refl; is = refl }) (omega (arith, error (goal.at.returns-in-Error c).In-Error)) c.seal.ensures
    in
    rw c.in-Error.is (l.long, l.is)

pub returns-in-Done : goal.returns-in-Done
unfolding answer_frame AnswerFits
returns-in-Done c =
    let old = c.args.out.now in
    let l = laid_seal 0xFFFF true {xs = 0 ∷ []} {old = old} (record { long = refl; is = refl }) (omega (arith, done (goal.at.returns-in-Done c).In-Done)) c.seal-in-Done.ensures in
    rw c.in-Done.is (l.long, l.is)

pub bounds-out-0 : goal.bounds-out-0
unfolding answer_frame AnswerFits
bounds-out-0 c =
    omega (arith, error (goal.at.bounds-out-0 c).In-Error)

pub bounds-out-1 : goal.bounds-out-1
unfolding answer_frame AnswerFits
bounds-out-1 c =
    simp length-set (omega (arith, error (goal.at.bounds-out-1 c).In-Error))

pub seal-requires : goal.seal-requires
unfolding answer_frame AnswerFits
seal-requires c =
    simp length-set (omega (arith, error (goal.at.seal-requires c).In-Error))

pub bounds-out-0-in-Done : goal.bounds-out-0-in-Done
unfolding answer_frame AnswerFits
bounds-out-0-in-Done c =
    omega (arith, done (goal.at.bounds-out-0-in-Done c).In-Done)

pub seal-requires-in-Done : goal.seal-requires-in-Done
unfolding answer_frame AnswerFits
seal-requires-in-Done c =
    simp length-set (omega (arith, done (goal.at.seal-requires-in-Done c).In-Done))
