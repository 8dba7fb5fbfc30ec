-- The numbers of the first i blocks are laid. Assumes nothing.
use Rattle.std.proofs.Common.{◌≡◌, ◌+◌, ℕ}
use Rattle.frame.specs.Choose.{gather}
use Rattle.print.specs.Line.{laid}
use Rattle.print.specs.Seen.{seen}
use Rattle.tell.specs.Meanings.{lock_at, locked_one}
use Rattle.tell.proofs.several.put_numbers.Given as goal

abbrev pub invariant-loop-i : goal.invariant-loop-i
invariant-loop-i l = seen l.line
    ≡ laid (seen l.initial.line) (gather l.i (λ (i : ℕ). locked_one (lock_at l.blocks.place l.blocks.long l.blocks.frame.now i) (l.first + i)))
