-- The fields still to come lead to the same end. Assumes nothing.
use Rattle.std.proofs.Common.{◌≡◌, ◌-◌, false, length}
use Rattle.make.specs.Tags.{fields_from}
use Rattle.make.proofs.lines.fields_in.Given as goal

abbrev pub invariant-loop : goal.invariant-loop
invariant-loop l = (length l.b ≡ length l.initial.b) × (fields_from (length l.line - l.counter) l.tag l.line l.at l.sized l.b ≡ fields_from (length l.line) l.tag l.line 0 false l.initial.b)
