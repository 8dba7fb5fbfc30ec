-- The part lies in the body and the buffer has room; what the two calls ensure is the frame of front and part.
-- Assumes nothing.
use Rattle.frame.proofs.Puts.{sealed_part}
use Rattle.frame.proofs.part.seal_part.Goals as goal

pub returns : goal.returns
returns c =
    let a = c.args in
    sealed_part a.n a.at a.k a.b.now a.out.now c.requires c.put_bytes-m.ensures c.seal.ensures
