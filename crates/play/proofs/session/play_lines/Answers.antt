-- What was handed over is told, and all is told at the end. Assumes nothing.
use Rattle.std.proofs.Common.{◌∙◌, sym}
use Rattle.play.specs.Session.{stand_of}
use Rattle.play.proofs.SessionLaid.{told_none, told_then, told_over}
use Rattle.play.proofs.session.play_lines.Goals as goal

pub loop-init : goal.loop-init
loop-init c = record { told_all = told_none; fine = c.requires }

pub loop-preserved : goal.loop-preserved
loop-preserved c =
    record {
      told_all = told_then c.loop.invariant.told_all c.play_some.ensures (c.hand_over.ensures c.if-not-hand_over.false);
      fine = c.play_some.ensures.fine;
    }

pub returns-then-has_ended : goal.returns-then-has_ended
returns-then-has_ended c e =
    let t = told_then c.loop.invariant.told_all c.play_some.ensures (c.hand_over.ensures c.if-not-hand_over.false) in
    told_over (stand_of c.play_some.new.session c.play_some.new.tags) t (sym c.has_ended.ensures ∙ c.if-has_ended.true)
