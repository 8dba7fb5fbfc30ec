-- One byte at the front, and its check sum behind it.
-- Assumes nothing.
use mathlib.Core.Path.{refl}
use mathlib.Core.Bool.{true}
use mathlib.Core.List.{[], ◌∷◌}
use native.Mathlib.Omega.{arith}
use Rattle.frame.proofs.Puts.{laid_seal}
use Rattle.chip_body.proofs.answer.say_id.Goals as goal

pub returns : goal.returns
returns c =
    let old = c.args.out.now in
    let l = laid_seal 0xFFFF true {xs = c.args.id ∷ []} {old = old} (record { long = refl; is = refl }) (omega (arith, c.requires)) c.seal.ensures in
    (c.seal.ensures.0, l.is)
