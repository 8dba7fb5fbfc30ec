-- The straight line of puts: one law over what all of them ensure.
-- Assumes nothing.
use borrow.Author.Rules.{rules}
use Rattle.reader.proofs.PlanParts.{lay_way}
use Rattle.reader.proofs.writer.lay.Goals as goal

pub returns : goal.returns
returns c =
    lay_way _ c.args.uid _ _ c.requires (search (rules, c.well_formed)) c.put_number-a.ensures c.put_bytes-b.ensures
    c.put_number-d.ensures c.put_number-e.ensures c.put_bytes-f.ensures c.seal.ensures
