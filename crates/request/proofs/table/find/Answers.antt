-- The first row that passes the test, as std tells of `find` over a slice.
-- Assumes nothing.
use Rattle.std.proofs.Common.{eqb, rules, tests, sym, ◌∙◌}
use Rattle.std.proofs.lemmas.Iterator.{YieldsList-from_slice}
use Rattle.std.proofs.lemmas.Iterator.Adapters.{option_map_id}
use Rattle.std.proofs.lemmas.Iterator.Consumers.{YieldsList-at, YieldsList-from_copied}
use Rattle.std.proofs.lemmas.Iterator.Search.{find_from_yields_List}
use Rattle.request.specs.Table.{row_of, lookup, table}
use Rattle.request.proofs.table.find.Goals as goal

pub returns : goal.returns
unfolding lookup table row_of
returns c =
    sym (option_map_id c.find.result)
    ∙ find_from_yields_List (λ r. eqb r.code c.args.code) _ _ _ c.find.ensures.ran
    (YieldsList-from_copied (YieldsList-at c.copied.ensures.source (YieldsList-from_slice table c.iter.ensures.rest)))
    (λ x b q k. search (rules, tests))
