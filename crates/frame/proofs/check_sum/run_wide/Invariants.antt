-- The register after k pairs of bytes is the run over them; a turn is sixteen bits at once, and an odd byte is left for the end.
-- Assumes nothing.
use Rattle.std.proofs.Common.{◌≡◌, ◌*◌, ◌^◌, ◌<◌, take}
use Rattle.frame.specs.CheckSum.{crc_run}
use Rattle.frame.proofs.check_sum.run_wide.Given as goal

abbrev pub invariant-loop-pair : goal.invariant-loop-pair
invariant-loop-pair l = (l.r ≡ crc_run l.start (take (2 * l.pair-index) l.s)) × (l.r < 2 ^ 16)
