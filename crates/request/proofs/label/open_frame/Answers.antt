-- The call as `call_of` ensures it.
-- Assumes nothing.
use mathlib.Core.Path.{◌∙◌}
use Rattle.request.specs.Label.{unaddressed}
use Rattle.request.proofs.label.open_frame.Goals as goal

pub returns : goal.returns
unfolding unaddressed
returns c =
    c.bare_call.ensures ∙ rw c.call_of.ensures
