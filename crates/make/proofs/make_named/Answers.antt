-- The array is as long as it is written: by the lemma, since computing it takes too much. Assumes nothing.
use Rattle.std.proofs.Common.{ℕ, sym}
use lib.ListN.{length-replicate}
use Rattle.make.proofs.make_named.Goals as goal

pub slice_bounds-make_file-end : goal.slice_bounds-make_file-end
slice_bounds-make_file-end c =
    sym (length-replicate {0} {A = ℕ} 1048577 0)
