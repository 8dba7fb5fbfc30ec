-- The place of an offence, by the kind.
-- Assumes nothing.
use Rattle.rack.proofs.TagKinds.{label_place, chip_place}
use Rattle.rack.proofs.tag.judge_tag.Goals as goal

pub returns-in-Label-clause-place : goal.returns-in-Label-clause-place
returns-in-Label-clause-place c = let f = rw c.in-Label.is at c.requires in rw c.judge_label.ensures (label_place _ f)

pub returns-in-Chip-clause-place : goal.returns-in-Chip-clause-place
returns-in-Chip-clause-place c = rw c.judge_chip.ensures (chip_place _)
