-- What was handed over is all that was said. Assumes nothing.
use Rattle.rack.specs.Facts.{RackFine}
use Rattle.play.specs.Session.{stand, stand_of}
use Rattle.play.proofs.SessionLaid.{Told}
use Rattle.play.proofs.session.play_lines.Given as goal

abbrev pub invariant-loop : goal.invariant-loop
invariant-loop l = record {
  told_all : Told l.quiet (stand l.fn.session.source l.fn.session.buf 0 l.fn.tags l.fn.session.draws l.fn.session.bytes) (stand_of l.session l.tags);
  fine : RackFine l.tags;
}
