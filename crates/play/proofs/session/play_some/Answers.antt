-- Each turn lays its text behind those before. Assumes nothing.
use Rattle.std.proofs.Common.{◌∙◌, sym, length}
use Rattle.print.specs.Line.{buffer}
use Rattle.print.specs.Seen.{seen}
use Rattle.play.specs.Session.{stand_of}
use Rattle.play.proofs.SessionLaid.{laid_one, laid_more}
use Rattle.play.proofs.session.play_some.Goals as goal

pub loop-init : goal.loop-init
loop-init c = let s = rw c.clear.ensures at c.play_next.ensures in laid_one s

pub loop-preserved : goal.loop-preserved
loop-preserved c =
    let s = c.loop.session in
    laid_more (stand_of s c.loop.tags) (length (buffer (seen s.desk.out))) (length (seen s.desk.out).text) c.loop.invariant (sym c.may_wait.ensures ∙ c.if-not-may_wait.false)
    c.play_next-in-loop.ensures
