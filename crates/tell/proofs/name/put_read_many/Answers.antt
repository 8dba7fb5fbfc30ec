-- The texts are long. Assumes nothing.
use Rattle.print.proofs.Lines.{long_lines}
use Rattle.tell.specs.Names.{read_many_text}
use Rattle.tell.proofs.name.put_read_many.Goals as goal

pub returns-then-option : goal.returns-then-option
unfolding read_many_text
returns-then-option c = rw c.if-option.true (search long_lines)

pub returns-else-option : goal.returns-else-option
unfolding read_many_text
returns-else-option c = rw c.if-option.false (search long_lines)
