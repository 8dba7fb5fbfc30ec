-- The lines still to come lead to the same end. Assumes nothing.
use Rattle.std.proofs.Common.{◌≡◌, ◌-◌, length}
use Rattle.make.specs.Lines.{lines_from}
use Rattle.make.specs.Tags.{take_lines}
use Rattle.make.proofs.lines.take_lines.Given as goal

abbrev pub invariant-loop : goal.invariant-loop
invariant-loop l = (length l.b ≡ length l.initial.b) × ((length l.out ≡ length l.initial.out)
    × (take_lines (lines_from (length l.text - l.counter) l.text l.at) l.m l.b l.out ≡ take_lines (lines_from (length l.text) l.text l.from) l.initial.m l.initial.b l.initial.out))
