-- The text is long. Assumes nothing.
use Rattle.print.proofs.Lines.{long_lines}
use Rattle.tell.specs.Names.{status_text}
use Rattle.tell.proofs.name.put_status.Goals as goal

pub returns : goal.returns
unfolding status_text
returns c = search long_lines
