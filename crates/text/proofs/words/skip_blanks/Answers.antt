-- What is no blank stops. Assumes nothing.
use Rattle.std.proofs.Common.{ap, ◌∙◌, ℕ, ◌+◌, not, drop, rules}
use Rattle.text.specs.Words.{is_blank}
use Rattle.text.proofs.WordsLead.{lead_double}
use Rattle.text.proofs.words.skip_blanks.Goals as goal

pub returns : goal.returns
returns c =
    let a = c.args in
    c.first_from.ensures (λ x. not (is_blank x)) (λ x h b e. search rules) ∙ ap (λ (n : ℕ). a.from + n) (lead_double is_blank (drop a.from a.s.now))
