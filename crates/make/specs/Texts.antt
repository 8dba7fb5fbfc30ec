-- What `make` says on standard error of a text, or of a rack that is not well-formed. Assumes nothing.
use Rattle.std.specs.Prelude.{ℕ, List, ◌++◌}
use Rattle.frame.specs.Judge.{Verdict}
use Rattle.print.specs.Ascii.{ascii}
use Rattle.print.specs.Decimal.{decimal_text}
use Rattle.sheet.specs.Refusal.{refusal_text}
use Rattle.draft.specs.declared.words.Why.{Why}
use Rattle.draft.specs.Words.{why_text}

-- line N: WHY
unfoldable pub wrong_text : ℕ → Why → List ℕ
wrong_text n why = ascii "line " ++ (decimal_text n ++ (ascii ": " ++ (why_text why ++ ascii "\n")))

-- not written: the line that `show` says of such a rack
unfoldable pub refused_text : List ℕ → Verdict → List ℕ
refused_text rack v = ascii "not written: " ++ (refusal_text rack v ++ ascii "\n")
