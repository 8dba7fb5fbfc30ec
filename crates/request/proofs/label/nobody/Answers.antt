-- The definition, as it stands.
-- Assumes nothing.
use Rattle.request.specs.Label.{nobody}
use Rattle.request.proofs.label.nobody.Goals as goal

pub returns : goal.returns
unfolding nobody
returns c =
    c.bare_call.ensures
