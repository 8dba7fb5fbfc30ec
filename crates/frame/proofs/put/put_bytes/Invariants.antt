-- The bytes still to be copied, from the place reached on, lead to the same end: a turn takes one off.
-- Assumes nothing.
use Rattle.std.proofs.Common.{◌≡◌, ◌+◌, drop, take}
use Rattle.std.proofs.lemmas.List.Edits.{sets}
use Rattle.frame.proofs.put.put_bytes.Given as goal

abbrev pub invariant-loop-i : goal.invariant-loop-i
invariant-loop-i l = sets l.out (l.at + l.i) (drop l.i (take l.n l.src)) ≡ sets l.initial.out l.at (take l.n l.src)
