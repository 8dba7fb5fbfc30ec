-- The last tag goes in before the head is laid. Assumes nothing.
use Rattle.std.proofs.Common.{ap}
use Rattle.make.specs.declared.lines.Maker.{Maker}
use Rattle.make.proofs.TagsLaid.{head_laid}
use Rattle.make.proofs.lines.laid.Goals as goal

pub returns : goal.returns
returns c = (
  ap (λ (x : Maker). x.end) c.close-n.ensures.tells,
  head_laid _ _ _ c.put_number.ensures.1 c.close-n.ensures.lays c.put_text.ensures.laid,
)
