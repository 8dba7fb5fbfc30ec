use Rattle.std.proofs.Common.{refl, ◌∙◌, arith, ◌≤◌, ◌<◌, length}
use lib.ListN.{length-set}
use Rattle.script.proofs.LinesDraws.{pad_start, pad_one, pad_none}
use Rattle.script.proofs.draws.set_draws.Goals as goal

pub loop-i-init : goal.loop-i-init
loop-i-init c = let a = c.args in (refl, pad_start a.draws.now a.bytes.now)

pub loop-i-preserved : goal.loop-i-preserved
loop-i-preserved c =
    let a = c.args in
    let v = c.loop-i.invariant in
    let h : c.loop-i.i < length a.draws.now = omega arith in (
      length-set c.loop-i.draws c.loop-i.i c.byte_at.result ∙ v.0,
      pad_one (length a.draws.now) c.loop-i.i a.bytes.now _ _ v.1 _ h c.byte_at.ensures,
    )

pub returns : goal.returns
returns c =
    let a = c.args in
    let h : length a.draws.now ≤ c.loop-i.i = omega arith in
    pad_none (length a.draws.now) c.loop-i.i a.bytes.now _ _ c.loop-i.invariant.1 h
