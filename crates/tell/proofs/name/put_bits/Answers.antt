-- The bytes lent are the mask's. Assumes nothing.
use Rattle.std.proofs.Common.{rules, ap, ◌∙◌, ℕ, List}
use Rattle.frame.specs.Ending.{bytes_for}
use Rattle.print.specs.Hex.{uid_text}
use Rattle.print.specs.Line.{laid}
use Rattle.print.specs.Seen.{seen}
use Rattle.tell.specs.Names.{bits_text}
use Rattle.tell.proofs.Front.{number_front}
use Rattle.tell.proofs.name.put_bits.Goals as goal

pub returns : goal.returns
unfolding bits_text bytes_for
returns c =
    let k = number_front _ _ _ (search rules) c.put_number-k.ensures in
    c.back.ensures ∙ ap (λ (s : List ℕ). laid (seen c.args.line.now) (uid_text s)) k
