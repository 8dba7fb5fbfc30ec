-- All bytes are laid at the end. Assumes nothing.
use Rattle.std.proofs.Common.{ap, ◌∙◌, ℕ, List}
use Rattle.std.proofs.lemmas.Iterator.Adapters.{YieldsList-from_rev_slice}
use Rattle.std.proofs.lemmas.Iterator.Consumers.{YieldsList-end}
use Rattle.print.specs.Line.{laid}
use Rattle.print.specs.Seen.{seen}
use Rattle.print.specs.Hex.{pairs_text, uid_text}
use Rattle.print.proofs.line.Line.back.Goals as goal

pub returns : goal.returns
unfolding uid_text
returns c =
    let t = YieldsList-end (YieldsList-from_rev_slice c.args.s.now cc) c.loop-b.yielded _ c.loop-b.yielded_by _ _ c.in-None.is c.next.ensures.steps in
    c.loop-b.invariant ∙ ap (λ (s : List ℕ). laid (seen c.args.self.now) (pairs_text s)) t.0
