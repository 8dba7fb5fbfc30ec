-- A rack that was judged well-formed is played. Assumes nothing.
use Rattle.std.proofs.Common.{◌∙◌, sym}
use Rattle.rack.proofs.FileVerdict.{rack_fine}
use Rattle.play.proofs.run.Goals as goal

pub play_all-requires : goal.play_all-requires
play_all-requires c = rack_fine _ (sym c.judge.ensures ∙ c.in_default.is)
