-- Why a rack is refused, in words. Assumes nothing.
use Rattle.std.specs.Prelude.{List, [], ◌++◌, ℕ, ◌-◌, eqb, if◌then◌else◌, Ok, Err}
use Rattle.frame.specs.Judge.{Verdict}
use Rattle.frame.specs.declared.verdict.Offence.{Offence}
use Rattle.frame.specs.declared.verdict.Rule.{Rule}
use Rattle.frame.specs.declared.verdict.Rule.TheVariants.{Length, Head, Entry, Body, Behind}
use Rattle.label_body.specs.declared.field.Field as label
use Rattle.label_body.specs.declared.field.Field.TheVariants as l
use Rattle.label_body.specs.Field as label-places
use Rattle.chip_body.specs.declared.field.Field as chip
use Rattle.chip_body.specs.declared.field.Field.TheVariants as c
use Rattle.chip_body.specs.Field as chip-places
use Rattle.rack.specs.declared.tag.Kind.{Kind}
use Rattle.rack.specs.declared.tag.Kind.TheVariants.{Label, Chip, Other}
use Rattle.rack.specs.File.{kind_at, start_of}
use Rattle.rack.specs.Place.{entry_of, within_entry, holder_of}
use Rattle.print.specs.Ascii.{ascii}
use Rattle.print.specs.Decimal.{decimal_text}

unfoldable pub head_words : ℕ → List ℕ
head_words place = if eqb place 0 then ascii "edition is not 1" else ascii "more than 64 tags"

-- by the place in the entry
unfoldable pub entry_words : ℕ → List ℕ
entry_words k =
    if eqb k 0 then ascii "kind is neither 1 nor 2"
    else if eqb k 1 then ascii "not 0"
    else if eqb k 2 then ascii "length of the body"
    else ascii "place of the body"

unfoldable pub lock_words : ℕ → List ℕ
lock_words n = ascii "lock of block " ++ decimal_text n

unfoldable pub label_words : label.Field → List ℕ
label_words l.Other = []
label_words l.Locks = ascii "locks"
label_words l.Blocks = ascii "blocks do not fit the length"
label_words l.Size = ascii "block length"
label_words l.State = ascii "state"
label_words l.Slot = ascii "slot"
label_words l.Bits = ascii "mask length"
label_words l.Mask = ascii "mask"
label_words l.Zero = ascii "not 0"
label_words (l.Lock n) = lock_words n

unfoldable pub chip_words : chip.Field → List ℕ
chip_words c.Other = []
chip_words c.State = ascii "state"
chip_words c.Id = ascii "Chip_ID"
chip_words c.Reload = ascii "reload"
chip_words c.Fixed = ascii "fixed-ID option"

-- by the place in the body
unfoldable pub body_words : Kind → ℕ → List ℕ
body_words Label place = label_words (label-places.field_at place)
body_words Chip place = chip_words (chip-places.field_at place)
body_words Other place = []

unfoldable pub tag_words : ℕ → List ℕ
tag_words i = ascii "tag " ++ (decimal_text i ++ ascii ": ")

unfoldable pub held_words : List ℕ → ℕ → List ℕ
held_words r place =
    tag_words (holder_of r place) ++ body_words (kind_at r (holder_of r place)) (place - start_of r (holder_of r place))

-- by the rule that is offended, and where: the file's length, its first two bytes, an entry, a body, what is behind them
unfoldable pub rule_words : List ℕ → Rule → ℕ → List ℕ
rule_words r Length place = ascii "the file ends here, in the middle of a rack"
rule_words r Head place = head_words place
rule_words r Entry place = tag_words (entry_of place) ++ entry_words (within_entry place)
rule_words r Body place = held_words r place
rule_words r Behind place = ascii "bytes behind the last tag"

-- the rule that a number names: every number but the first four names the last
unfoldable pub rule_of : ℕ → Rule
rule_of number =
    if eqb number 10 then Length
    else if eqb number 11 then Head
    else if eqb number 12 then Entry
    else if eqb number 13 then Body
    else Behind

abbrev pub offence_of : ℕ → ℕ → Offence
offence_of number place = record { rule = rule_of number; place = place }

-- a verdict that names no offence has the last words, at byte 0
abbrev pub words_for : List ℕ → Verdict → List ℕ
words_for r (Ok none) = ascii "bytes behind the last tag"
words_for r (Err o) = rule_words r o.rule o.place

abbrev pub place_of : Verdict → ℕ
place_of (Ok none) = 0
place_of (Err o) = o.place

unfoldable pub refusal_text : List ℕ → Verdict → List ℕ
refusal_text r v = ascii "refused 1: byte " ++ (decimal_text (place_of v) ++ (ascii ": " ++ words_for r v))
