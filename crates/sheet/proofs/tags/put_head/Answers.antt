-- One text behind the other. Assumes nothing.
use Rattle.print.proofs.Lines.{long_lines}
use Rattle.sheet.specs.Tags.{head_text}
use Rattle.sheet.proofs.tags.put_head.Goals as goal

pub returns : goal.returns
unfolding head_text
returns c = search long_lines
