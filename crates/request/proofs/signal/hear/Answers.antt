-- Each of its two parts is what its decoder gives.
-- Assumes nothing.
use Rattle.request.proofs.signal.hear.Goals as goal

pub returns : goal.returns
returns c =
    rw (c.hear.ensures, c.hear-2.ensures)
