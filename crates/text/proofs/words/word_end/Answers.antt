-- A blank stops. Assumes nothing.
use Rattle.std.proofs.Common.{rules}
use Rattle.text.specs.Words.{is_blank}
use Rattle.text.proofs.words.word_end.Goals as goal

pub returns : goal.returns
returns c = c.first_from.ensures is_blank (λ x h b e. search rules)
