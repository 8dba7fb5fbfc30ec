-- Who answered an event: the UIDs of the tags that say something, in the order of the entries. Assumes nothing.
use Rattle.std.specs.Prelude.{Bool, List, [], ◌++◌, ℕ, get_or, if◌then◌else◌}
use Rattle.frame.specs.Choose.{gather}
use Rattle.frame.specs.Number.{part}
use Rattle.print.specs.Ascii.{ascii}
use Rattle.print.specs.Hex.{uid_text}
use Rattle.rack.specs.declared.tag.Kind.{Kind}
use Rattle.rack.specs.declared.tag.Kind.TheVariants.{Label, Chip, Other}
use Rattle.rack.specs.File.{count_of, kind_at}
use Rattle.rack.specs.Facts.{body_of}
use Rattle.rack.specs.Tag.{Event, said_by, speaks}
use Rattle.trace.specs.Change.{when_text}
use Rattle.trace.specs.Question.{some}

unfoldable pub tag_uid : Kind → List ℕ → List ℕ
tag_uid Label b = uid_text (part 0 8 b)
tag_uid Chip b = uid_text (part 68 8 b)
tag_uid Other b = []

-- whether a tag with this body and draw answers
unfoldable pub answers_by : Event → ℕ → Kind → List ℕ → Bool
answers_by event d kind b = speaks (said_by kind event d b)

abbrev pub answers_at : Event → List ℕ → List ℕ → ℕ → Bool
answers_at event ds r i = answers_by event (get_or ds i 0) (kind_at r i) (body_of r i)

-- a UID, behind a comma where there are more before it
unfoldable pub owner_text : Bool → Kind → List ℕ → List ℕ
owner_text more kind b = when_text more (ascii ", ") ++ tag_uid kind b

abbrev pub owner_at : Event → List ℕ → List ℕ → ℕ → List ℕ
owner_at event ds r i = if answers_at event ds r i then owner_text (some i (answers_at event ds r)) (kind_at r i) (body_of r i) else []

unfoldable pub owners_text : Event → List ℕ → List ℕ → List ℕ
owners_text event ds r = gather (count_of r) (owner_at event ds r)
