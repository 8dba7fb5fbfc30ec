-- The array holds all bytes, and its first are lent. Assumes nothing.
use Rattle.std.proofs.Common.{rules, ap, ◌∙◌, ℕ, List}
use Rattle.print.specs.Hex.{uid_text}
use Rattle.print.specs.Line.{laid}
use Rattle.print.specs.Seen.{seen}
use Rattle.sheet.proofs.LabelsMask.{mask_bytes}
use Rattle.sheet.proofs.labels.put_mask_bytes.Goals as goal

pub returns : goal.returns
returns c =
    c.back.ensures
    ∙ ap (λ (s : List ℕ). laid (seen c.args.line.now) (uid_text s)) (mask_bytes _ _ (search rules) c.put_number.ensures.1)
