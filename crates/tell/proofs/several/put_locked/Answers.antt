-- The text is long. Assumes nothing.
use Rattle.std.proofs.Common.{sym, ◌∙◌}
use Rattle.print.proofs.Lines.{long_lines}
use Rattle.tell.specs.Meanings.{locked_text}
use Rattle.tell.proofs.several.put_locked.Goals as goal

pub returns-else-are_unlocked : goal.returns-else-are_unlocked
unfolding locked_text
returns-else-are_unlocked c = rw (sym c.are_unlocked.ensures ∙ c.if-are_unlocked.false) (search long_lines)
