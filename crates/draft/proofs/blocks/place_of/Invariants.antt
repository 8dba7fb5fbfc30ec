-- The steps still to be taken lead to the same place. Assumes nothing.
use Rattle.std.proofs.Common.{◌≡◌, ◌-◌, length}
use Rattle.draft.specs.Blocks.{pair_at}
use Rattle.draft.proofs.blocks.place_of.Given as goal

abbrev pub invariant-loop : goal.invariant-loop
invariant-loop l = pair_at (length l.s - l.counter) l.s l.at l.more ≡ pair_at (length l.s) l.s 0 l.n
