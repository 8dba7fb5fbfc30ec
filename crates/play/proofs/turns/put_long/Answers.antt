-- The text is long. Assumes nothing.
use Rattle.print.proofs.Lines.{long_lines}
use Rattle.play.specs.Turns.{long_text}
use Rattle.play.proofs.turns.put_long.Goals as goal

pub returns : goal.returns
unfolding long_text
returns c = search long_lines
