-- Two bytes and the first ten of the body are laid, and the frame of them and three more over them.
-- Assumes nothing.
use mathlib.Core.Path.{refl, ◌∙◌}
use mathlib.Core.List.{[], ◌∷◌}
use native.Mathlib.Omega.{arith}
use lib.ListN.{take, length-set}
use lib.Seq.{length-take-le}
use borrow.Author.Rules.{rules}
use Rattle.frame.specs.Number.{part}
use Rattle.frame.proofs.Stores.{length_part}
use Rattle.frame.proofs.Puts.{Laid, laid_bytes, laid_part}
use Rattle.label_body.specs.Answer.{answer_frame}
use Rattle.label_body.proofs.answer.say_info.Goals as goal

pub returns : goal.returns
unfolding answer_frame
returns c =
    let b = c.args.b.now in
    let old = c.args.out.now in
    let e = c.put_bytes-n.ensures in
    let f = c.seal_part.ensures in
    let h = length-take-le 10 b (omega (arith, c.requires)) in
    let k : Laid (0 ∷ 0x0F ∷ take 10 b) _ old _ =
    laid_bytes {xs = 0 ∷ 0x0F ∷ []} {old = old} 10 b (omega (arith, c.requires)) (record { long = refl; is = refl }) e
    in
    let l = laid_part {old = old} (part 11 3 b) k (omega (arith, c.requires)) (length_part 11 3 b (omega (arith, c.requires))) f in
    (omega (arith, e.0, f.0), l.is)

pub bounds-out-1 : goal.bounds-out-1
unfolding answer_frame
bounds-out-1 c =
    simp length-set (omega arith)

pub put_bytes-n-requires : goal.put_bytes-n-requires
unfolding answer_frame
put_bytes-n-requires c =
    (simp length-set (omega arith), search rules)

pub seal_part-requires : goal.seal_part-requires
unfolding answer_frame
seal_part-requires c =
    let p = c.put_bytes-n in (search rules, omega (arith, simp length-set at p.auto.out, p.ensures.0))

pub shape_of-out : goal.shape_of-out
unfolding answer_frame
shape_of-out c =
    c.seal_part.auto.out ∙ c.put_bytes-n.auto.out ∙ simp length-set
