-- The texts are long. Assumes nothing.
use Rattle.print.proofs.Lines.{long_lines}
use Rattle.trace.specs.Words.{sum_text}
use Rattle.trace.proofs.why.put_wrong_sum.Goals as goal

pub returns : goal.returns
unfolding sum_text
returns c = search long_lines
