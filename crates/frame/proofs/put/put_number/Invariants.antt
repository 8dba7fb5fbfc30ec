-- The bytes still to be written, from the place reached on, lead to the same end: a turn takes one off.
-- Assumes nothing.
use Rattle.std.proofs.Common.{◌≡◌, ◌-◌, ◌+◌}
use Rattle.std.proofs.lemmas.List.Edits.{sets}
use Rattle.frame.specs.Number.{bytes_of}
use Rattle.frame.proofs.put.put_number.Given as goal

abbrev pub invariant-loop-i : goal.invariant-loop-i
invariant-loop-i l = sets l.out (l.at + l.i) (bytes_of (l.k - l.i) l.w) ≡ sets l.initial.out l.at (bytes_of l.k l.v)
