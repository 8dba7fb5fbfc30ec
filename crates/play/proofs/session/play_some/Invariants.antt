-- What was said so far stands in the line. Assumes nothing.
use Rattle.print.specs.Seen.{seen}
use Rattle.play.specs.Session.{stand_of, Laid}
use Rattle.play.proofs.session.play_some.Given as goal

abbrev pub invariant-loop : goal.invariant-loop
invariant-loop l = Laid l.quiet (stand_of l.fn.session l.fn.tags) (stand_of l.session l.tags) (seen l.fn.session.desk.out) (seen l.session.desk.out)
