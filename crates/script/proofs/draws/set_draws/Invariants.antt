-- The draws still to be set, from the place reached on, lead to the same end. Assumes nothing.
use Rattle.std.proofs.Common.{◌≡◌, ◌-◌, length, drop}
use lib.Seq.{sets}
use Rattle.script.specs.Lines.{padded}
use Rattle.script.proofs.draws.set_draws.Given as goal

abbrev pub invariant-loop-i : goal.invariant-loop-i
invariant-loop-i l = (length l.draws ≡ length l.initial.draws) × (sets l.draws l.i (padded (length l.initial.draws - l.i) (drop l.i l.bytes)) ≡ padded (length l.initial.draws) l.bytes)
