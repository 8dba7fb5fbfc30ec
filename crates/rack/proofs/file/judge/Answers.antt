-- Each part is judged where those in front of it are fine.
-- Assumes nothing.
use Rattle.std.proofs.Common.{◌∙◌, sym}
use Rattle.rack.proofs.FileVerdict.{entries_fine}
use Rattle.rack.proofs.file.judge.Goals as goal

pub judge_bodies-requires-clause-entries_fine : goal.judge_bodies-requires-clause-entries_fine
judge_bodies-requires-clause-entries_fine c = entries_fine _ (sym c.judge_entries.ensures ∙ c.in_ok-judge_entries.was)

pub judge_end-requires-clause-entries_fine : goal.judge_end-requires-clause-entries_fine
judge_end-requires-clause-entries_fine c = entries_fine _ (sym c.judge_entries.ensures ∙ c.in_ok-judge_entries.was)
