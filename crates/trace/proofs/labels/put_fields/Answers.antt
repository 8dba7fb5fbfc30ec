-- The texts are long. Assumes nothing.
use Rattle.print.proofs.Lines.{long_lines}
use Rattle.trace.specs.Labels.{label_fields}
use Rattle.trace.proofs.labels.put_fields.Goals as goal

pub returns : goal.returns
unfolding label_fields
returns c = search long_lines
