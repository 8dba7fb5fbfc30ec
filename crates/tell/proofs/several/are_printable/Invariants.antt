-- The first i blocks show. Assumes nothing.
use Rattle.std.proofs.Common.{◌≡◌, true, ℕ}
use Rattle.frame.specs.Choose.{all_of}
use Rattle.print.specs.Quote.{printable}
use Rattle.tell.specs.Meanings.{piece_at}
use Rattle.tell.proofs.several.are_printable.Given as goal

abbrev pub invariant-loop-i : goal.invariant-loop-i
invariant-loop-i g l = all_of l.i (λ (i : ℕ). printable (piece_at l.blocks.place g.row.GAP l.blocks.long l.blocks.frame.now i)) ≡ true
