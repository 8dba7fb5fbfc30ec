-- Behind a chip's frame any tag may differ. Assumes nothing.
use Rattle.trace.proofs.CalmChanges.{only_any}
use Rattle.play.proofs.told.put_behind.Goals as goal

pub put_changes-requires-then-e-eq5 : goal.put_changes-requires-then-e-eq5
put_changes-requires-then-e-eq5 c = only_any _ _ _
