-- Of all refusals but one there is no room. Assumes nothing.
use Rattle.script.proofs.LinesCommands.{full}
use Rattle.script.proofs.commands.refused.Goals as goal

pub returns-in_default : goal.returns-in_default
returns-in_default c = full c.args.why c.in_default.not-Fields
