-- Two bytes are laid, and the frame of them and the UID over them.
-- Assumes nothing.
use mathlib.Core.Path.{refl, ◌∙◌}
use mathlib.Core.List.{[], ◌∷◌}
use native.Mathlib.Omega.{arith}
use lib.ListN.{get_or, length-set}
use lib.Seq.{length-take-le}
use borrow.Author.Rules.{rules}
use Rattle.frame.specs.Number.{part}
use Rattle.frame.proofs.Puts.{laid_part}
use Rattle.label_body.specs.Answer.{answer_frame}
use Rattle.label_body.proofs.answer.say_found.Goals as goal

pub returns : goal.returns
unfolding answer_frame
returns c =
    let b = c.args.b.now in
    let e = c.seal_part.ensures in
    let h = length-take-le 8 b (omega (arith, c.requires)) in
    let l = laid_part {xs = 0 ∷ get_or b 8 0 ∷ []} {old = c.args.out.now} (part 0 8 b) (record { long = refl; is = refl }) (omega (arith, c.requires)) h e in
    (e.0, l.is)

pub bounds-out-1 : goal.bounds-out-1
unfolding answer_frame
bounds-out-1 c =
    simp length-set (omega arith)

pub seal_part-requires : goal.seal_part-requires
unfolding answer_frame
seal_part-requires c =
    (search rules, simp length-set (omega arith))

pub shape_of-out : goal.shape_of-out
unfolding answer_frame
shape_of-out c =
    c.seal_part.auto.out ∙ simp length-set
