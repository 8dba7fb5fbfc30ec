-- The byte is one of those laid, or none. Assumes nothing.
use Rattle.std.proofs.Common.{refl, arith}
use Rattle.print.specs.Seen.{seen}
use Rattle.print.proofs.Lines.{set_here, set_past}
use Rattle.print.proofs.line.Line.set.Goals as goal

pub returns-then-i-self : goal.returns-then-i-self
unfolding seen
returns-then-i-self c = set_here _ _ _ _ refl (omega arith)

pub returns-else-i-self : goal.returns-else-i-self
unfolding seen
returns-else-i-self c = set_past _ _ _ _ c.args.self.now.inside refl (omega arith)
