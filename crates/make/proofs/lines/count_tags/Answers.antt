use Rattle.std.proofs.Common.{◌≡◌, ℕ, ◌≤◌, Bool, true, false, arith, refl, ap, ◌∙◌, if◌then◌else◌}
use mir.Val.{bool_byte}
use Rattle.make.proofs.LinesTaken.{lines_none, lines_one, lines_spent, count_none, count_one}
use Rattle.make.proofs.lines.count_tags.Goals as goal

as_chosen : (o : Bool) → bool_byte o ≡ (if o then 1 else 0)
as_chosen true = refl
as_chosen false = refl

one_most : (o : Bool) {t : ℕ} → t ≡ bool_byte o → t ≤ 1
one_most true e = omega arith
one_most false e = omega arith

pub returns-then-text-at : goal.returns-then-text-at
returns-then-text-at c =
    count_none _ _ _ c.loop.invariant.1 (lines_none _ _ _ (omega arith) c.if-text-at.true)

pub loop-preserved : goal.loop-preserved
loop-preserved c =
    let k = lines_one _ _ _ (omega arith) c.if-text-at.false c.find-to.ensures c.line_of.ensures c.place-at.ensures in
    let t = one_most _ c.from-n.ensures in
    (omega arith, count_one _ _ _ c.loop.invariant.1 k (c.from-n.ensures ∙ as_chosen _ ∙ ap (λ (o : Bool). if o then 1 else 0) c.opens_tag.ensures))

pub returns : goal.returns
returns c =
    count_none _ _ _ c.loop.invariant.1 (lines_spent _ _ _ (omega arith))
