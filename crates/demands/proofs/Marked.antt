-- The marked examples of document 01 hold, one statement over one list. Assumes nothing.
use Rattle.demands.specs.Marked.{marks, All}
use Rattle.demands.proofs.MarkedTags.{sum_holds, slots_hold, chips_hold}
use Rattle.demands.proofs.MarkedWalks.{two_hold, none_hold}

pub marked : All marks
marked =
    let (c, (d, (e, (f, (g, (h, (i, j))))))) = chips_hold in
    (sum_holds, (slots_hold, (c, (d, (e, (f, (g, (h, (i, (j, (two_hold, (none_hold, tt))))))))))))
