-- No byte below j has offended: `mask_fine` keeps it so, and `mask_bad` is the first that does.
-- Assumes nothing.
use mathlib.Core.Path.{◌≡◌}
use Rattle.frame.specs.Judge.{first_of, fine}
use Rattle.label_body.specs.Body.{mask_verdict}
use Rattle.label_body.proofs.judge.seek_over.Given as goal

abbrev pub invariant-loop-j : goal.invariant-loop-j
invariant-loop-j l = first_of l.j (mask_verdict l.b) ≡ fine
