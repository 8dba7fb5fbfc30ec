-- What changed between a rack and the one that an event left: a line for each tag whose told fields are others. Assumes nothing.
use Rattle.std.specs.Prelude.{List, [], ℕ, eqb, if◌then◌else◌}
use Rattle.frame.specs.Choose.{gather}
use Rattle.rack.specs.declared.tag.Kind.{Kind}
use Rattle.rack.specs.declared.tag.Kind.TheVariants.{Label, Chip, Other}
use Rattle.rack.specs.File.{count_of, kind_at}
use Rattle.rack.specs.Facts.{body_of}
use Rattle.trace.specs.Labels.{label_line}
use Rattle.trace.specs.Chips.{chip_line}

unfoldable pub tag_line : Kind → List ℕ → List ℕ → List ℕ
tag_line Label a b = label_line a b
tag_line Chip a b = chip_line a b
tag_line Other a b = []

-- in the order of the entries
unfoldable pub lines_text : List ℕ → List ℕ → List ℕ
lines_text old new = gather (count_of new) (λ i. tag_line (kind_at new i) (body_of old i) (body_of new i))

-- the contents never change: racks with other counts are not one rack before and behind an event
unfoldable pub changes_text : List ℕ → List ℕ → List ℕ
changes_text old new = if eqb (count_of old) (count_of new) then lines_text old new else []
