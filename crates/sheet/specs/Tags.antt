-- A rack as text. Assumes nothing.
use Rattle.std.specs.Prelude.{List, [], ◌++◌, ℕ, length, Ok, Err}
use Rattle.frame.specs.Choose.{gather}
use Rattle.frame.specs.Judge.{Verdict}
use Rattle.rack.specs.declared.tag.Kind.{Kind}
use Rattle.rack.specs.declared.tag.Kind.TheVariants.{Label, Chip, Other}
use Rattle.rack.specs.File.{count_of, kind_at, verdict_of}
use Rattle.rack.specs.Facts.{body_of}
use Rattle.print.specs.Ascii.{ascii}
use Rattle.print.specs.Decimal.{decimal_text}
use Rattle.sheet.specs.Words.{tags_word}
use Rattle.sheet.specs.Labels.{label_text}
use Rattle.sheet.specs.Chips.{chip_text}
use Rattle.sheet.specs.Refusal.{refusal_text}

-- n tags in a file of so many bytes
unfoldable pub head_text : ℕ → ℕ → List ℕ
head_text n len = ascii "rack edition 1  # " ++ (decimal_text n ++ (tags_word n ++ (decimal_text len ++ ascii " bytes\n")))

unfoldable pub tag_text : Kind → ℕ → List ℕ → List ℕ
tag_text Label i b = label_text i b
tag_text Chip i b = chip_text i b
tag_text Other i b = []

-- tag i of a rack
unfoldable pub tag_at : List ℕ → ℕ → List ℕ
tag_at r i = tag_text (kind_at r i) i (body_of r i)

unfoldable pub rack_text : List ℕ → List ℕ
rack_text r = head_text (count_of r) (length r) ++ gather (count_of r) (tag_at r)

-- any file: the rack, or the line why it is refused
abbrev pub judged_text : List ℕ → Verdict → List ℕ
judged_text r (Ok none) = rack_text r
judged_text r (Err o) = refusal_text r (Err o) ++ ascii "\n"

unfoldable pub sheet_text : List ℕ → List ℕ
sheet_text r = judged_text r (verdict_of r)
