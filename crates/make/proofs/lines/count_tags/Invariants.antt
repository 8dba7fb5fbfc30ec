-- The tags so far and those of the lines still to come are those of all lines; each line has one at most. Assumes nothing.
use Rattle.std.proofs.Common.{◌≡◌, ◌+◌, ◌-◌, ◌≤◌, length}
use Rattle.make.specs.Lines.{lines_from, tags_in}
use Rattle.make.proofs.lines.count_tags.Given as goal

abbrev pub invariant-loop : goal.invariant-loop
invariant-loop l = (l.n ≤ l.counter) × (l.n + tags_in (lines_from (length l.text - l.counter) l.text l.at) ≡ tags_in (lines_from (length l.text) l.text l.from))
