-- The spaces so far are laid. Assumes nothing.
use Rattle.std.proofs.Common.{◌≡◌}
use Rattle.print.specs.Line.{laid}
use Rattle.print.specs.Seen.{seen}
use Rattle.print.specs.Puts.{spaces}
use Rattle.print.proofs.line.Line.spaces.Given as goal

abbrev pub invariant-loop : goal.invariant-loop
invariant-loop l = seen l.self ≡ laid (seen l.initial.self) (spaces l.counter)
