-- The front of zeros are as many zeros. Assumes nothing.
use Rattle.draft.proofs.BlocksPairs.{zeros_front}
use Rattle.draft.proofs.blocks.numbered.Goals as goal

pub returns : goal.returns
returns c = rw (← c.block_size-size.ensures.value, ← zeros_front _ 256 c.block_size-size.ensures.upper_bound) c.block_of.ensures
