-- What is judged fine is well-formed. Assumes nothing.
use Rattle.std.proofs.Common.{sym, ◌∙◌}
use Rattle.rack.proofs.FileVerdict.{rack_fine}
use Rattle.rack.proofs.whole.Rack.judged.Goals as goal

pub invariant_of-result : goal.invariant_of-result
invariant_of-result c = rack_fine _ (sym c.judge.ensures ∙ c.in_ok-judge.was)
