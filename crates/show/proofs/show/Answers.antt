-- The array is as long as it is written: by the lemma, since computing it takes too much. Assumes nothing.
use Rattle.std.proofs.Common.{ℕ, sym}
use lib.ListN.{length-replicate}
use Rattle.show.proofs.show.Goals as goal

pub slice_bounds-new-end : goal.slice_bounds-new-end
slice_bounds-new-end c =
    sym (length-replicate {0} {A = ℕ} 1048576 0)
