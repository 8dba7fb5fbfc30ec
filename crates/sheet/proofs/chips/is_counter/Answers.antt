-- By the two numbers. Assumes nothing.
use Rattle.std.proofs.Common.{arith}
use Rattle.std.proofs.lemmas.Grind.{common_steps}
use Rattle.sheet.specs.Chips.{counter?}
use Rattle.sheet.proofs.chips.is_counter.Goals as goal

pub returns : goal.returns
unfolding counter?
returns c = grind (arith, common_steps)
