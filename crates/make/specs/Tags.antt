-- What the lines of a text do to a rack that is made of them, tag by tag. The open tag's body stands in a buffer of its own, and goes into the rack where
-- the next tag opens. Assumes nothing.
use Rattle.std.specs.Prelude.{◌≡◌, ℕ, zero, suc, ◌-◌, Bool, true, false, not, ◌||◌, List, [], ◌∷◌, ◌++◌, length, nat_lt, slice_index, if◌then◌else◌}
use Rattle.std.specs.Prelude.{Option, Some, None, Result, Ok, Err}
use Rattle.std.specs.Option.{ok_or}
use Rattle.std.proofs.lemmas.List.Edits.{sets}
use Rattle.frame.specs.Number.{bytes_of}
use Rattle.print.specs.Ascii.{ascii}
use Rattle.text.specs.Count.{is_decimal}
use Rattle.rack.specs.declared.tag.Kind.{Kind}
use Rattle.rack.specs.declared.tag.Kind.TheVariants.{Label, Chip, Other}
use Rattle.rack.specs.File.{entry_at}
use Rattle.verbs.specs.declared.tokens.Span.{Span}
use Rattle.verbs.specs.Tokens.{span, is_empty, word_from, text_of}
use Rattle.verbs.specs.Trouble.{on_ok}
use Rattle.verbs.specs.Pieces.{next_is}
use Rattle.verbs.specs.Data.{place_of}
use Rattle.draft.specs.declared.words.Part.TheVariants as part
use Rattle.draft.specs.declared.words.Why.{Why}
use Rattle.draft.specs.declared.words.Why.TheVariants as why
use Rattle.draft.specs.declared.labels.Reached.{Reached}
use Rattle.draft.specs.Words.{no_part, ended, uid_from}
use Rattle.draft.specs.Bodies.{Draft, new_tag, body_length}
use Rattle.draft.specs.Chips.{chip_field}
use Rattle.draft.specs.Labels.{reached, label_field}
use Rattle.draft.specs.Blocks.{block_line}
use Rattle.make.specs.declared.lines.Maker.{Maker}
use Rattle.make.specs.declared.lines.Stop.{Stop}
use Rattle.make.specs.declared.lines.Tag.{Tag}
use Rattle.make.specs.Lines.{Line}

-- ---- what a line leaves: how far the rack is made, or what is wrong with which line; the open tag's body; the rack's bytes

abbrev pub Step : Type 0
Step = Result Maker Stop

-- something is wrong with a line
abbrev pub stop : ℕ → Why → Stop
stop line why = record { line = line; why = why }

abbrev pub at_line : {A : Type 0} → ℕ → Result A Why → Result A Stop
at_line line (Ok x) = Ok x
at_line line (Err why) = Err (stop line why)

pub record Taken : Type 0 where
  pub step : Step
  pub body : List ℕ
  pub out : List ℕ

abbrev pub taken : Step → List ℕ → List ℕ → Taken
taken step body out = record { step = step; body = body; out = out }

-- a function returned that, and left its buffers so
pub record Takes (x : Taken) (r : Step) (body out : List ℕ) : Type 0 where
  pub tells : r ≡ x.step
  pub leaves : body ≡ x.body
  pub lays : out ≡ x.out

-- the same of a line about the open tag, which leaves the rack's bytes as they are
pub record Turned : Type 0 where
  pub step : Step
  pub body : List ℕ

abbrev pub turned : Step → List ℕ → Turned
turned step body = record { step = step; body = body }

pub record Turns (x : Turned) (r : Step) (body : List ℕ) : Type 0 where
  pub tells : r ≡ x.step
  pub leaves : body ≡ x.body

-- ---- the open tag goes into the rack

-- a tag of this kind makes the rack longer than 65,536 bytes, with its entry of 8
unfoldable pub over : Maker → Kind → List ℕ → Bool
over m kind b = nat_lt 65536 (place_of (place_of m.size 8) (body_length kind b))

-- the open tag does not, or else the line that gave it its length is wrong
abbrev pub fits_by : Option Tag → Maker → List ℕ → Result Unit Stop
fits_by None m b = Ok tt
fits_by (Some t) m b = if over m t.kind b then Err (stop t.line why.Bytes) else Ok tt

unfoldable pub fits : Maker → List ℕ → Result Unit Stop
fits m b = fits_by m.tag m b

-- where entry i stands; behind the last of 64 there is no other
unfoldable pub entry_place : ℕ → ℕ
entry_place i = if nat_lt 64 i then entry_at 64 else entry_at i

abbrev pub kind_byte : Kind → ℕ
kind_byte Label = 1
kind_byte Chip = 2
kind_byte Other = 3

-- kind, a zero, body length, place of the body
abbrev pub entry : Kind → ℕ → ℕ → List ℕ
entry kind len at = kind_byte kind ∷ 0 ∷ (bytes_of 2 len ++ bytes_of 4 at)

-- the entry of the last of so many tags
unfoldable pub with_entry : ℕ → Kind → ℕ → ℕ → List ℕ → List ℕ
with_entry count kind len at out = sets out (entry_place (count - 1)) (entry kind len at)

-- the tag's entry and its body are laid, and the next body goes behind it
abbrev pub closed_by : Option Tag → Maker → List ℕ → Maker
closed_by None m b = m
closed_by (Some t) m b = let len = body_length t.kind b in record m { size = place_of (place_of m.size 8) len; end = place_of m.end len }

unfoldable pub closed_maker : Maker → List ℕ → Maker
closed_maker m b = closed_by m.tag m b

abbrev pub out_by : Option Tag → Maker → List ℕ → List ℕ → List ℕ
out_by None m b out = out
out_by (Some t) m b out = let len = body_length t.kind b in sets (with_entry m.count t.kind len m.end out) m.end (text_of b (span 0 len))

unfoldable pub closed_out : Maker → List ℕ → List ℕ → List ℕ
closed_out m b out = out_by m.tag m b out

pub record Closes (m : Maker) (b old : List ℕ) (r : Maker) (new : List ℕ) : Type 0 where
  pub tells : r ≡ closed_maker m b
  pub lays : new ≡ closed_out m b old

-- ---- `label UID`, `chip UID`

-- one tag more, of a kind; its length is that of this line, and no block has been said
abbrev pub opening : Kind → Maker → Maker → Maker
opening kind m n = record n { count = place_of m.count 1; tag = Some (record { kind = kind; line = m.lines; held = false }) }

-- a chip's length is known at once, a label's when all is said of it
unfoldable pub over_at_once : Maker → Kind → List ℕ → Bool
over_at_once m Label b = false
over_at_once m Chip b = over m Chip b
over_at_once m Other b = false

unfoldable pub opened : Maker → Kind → List ℕ → List ℕ → List ℕ → Taken
opened m kind uid b out =
    let n = opening kind m (closed_maker m b) in
    let new = new_tag kind uid b in
    if nat_lt 63 m.count then taken (Err (stop m.lines why.Tags)) b out
    else if over_at_once n kind new then taken (Err (stop m.lines why.Bytes)) new (closed_out m b out)
    else taken (Ok n) new (closed_out m b out)

-- where nothing is wrong comes what follows
abbrev pub then_taken : {A : Type 0} → Result A Stop → List ℕ → List ℕ → (A → Taken) → Taken
then_taken (Ok x) b out next = next x
then_taken (Err s) b out next = taken (Err s) b out

-- the tag before it must fit; then comes a UID and nothing more
unfoldable pub opens : Maker → Kind → List ℕ → ℕ → List ℕ → List ℕ → Taken
opens m kind line at b out =
    let u = uid_from line at in
    then_taken (fits m b) b out (λ _.
    then_taken (ok_or u.value (stop m.lines (no_part u.word.from part.Uid))) b out (λ uid.
    then_taken (at_line m.lines (ended line u.word.to)) b out (λ _.
    opened m kind uid b out)))

-- ---- `rack edition 1`

-- the place behind a word that must stand next
unfoldable pub word_behind : List ℕ → ℕ → List ℕ → Result ℕ Why
word_behind line at word = let w = word_from line at in if next_is line at word then Ok w.to else Err (no_part w.from part.Edition)

unfoldable pub edition_in : List ℕ → Result ℕ Why
edition_in line =
    on_ok (word_behind line 0 (ascii "rack")) (λ edition.
    on_ok (word_behind line edition (ascii "edition")) (λ number.
    on_ok (word_behind line number (ascii "1")) (ended line)))

unfoldable pub begins : Maker → List ℕ → Step
begins m line = on_ok (at_line m.lines (edition_in line)) (λ _. Ok (record m { begun = true }))

-- ---- a line of fields

abbrev pub field_by : Kind → Bool → List ℕ → Span → List ℕ → Draft Reached
field_by Label held line w b = label_field line w held b
field_by Chip held line w b = reached false (chip_field line w b)
field_by Other held line w b = reached false (chip_field line w b)

unfoldable pub field_of : Tag → List ℕ → Span → List ℕ → Draft Reached
field_of t line w b = field_by t.kind t.held line w b

-- whether `blocks` was among the fields of a line, or what is wrong with them, and the body then
pub record FieldsTold : Type 0 where
  pub fields : Result Bool Why
  pub body : List ℕ

abbrev pub fields_told : Result Bool Why → List ℕ → FieldsTold
fields_told fields body = record { fields = fields; body = body }

pub record Tells (x : FieldsTold) (r : Result Bool Why) (body : List ℕ) : Type 0 where
  pub tells : r ≡ x.fields
  pub leaves : body ≡ x.body

-- behind a field come the others
abbrev pub then_fields : Result Reached Why → Bool → List ℕ → (ℕ → Bool → List ℕ → FieldsTold) → FieldsTold
then_fields (Ok x) sized b others = others x.to (sized || x.sized) b
then_fields (Err why) sized b others = fields_told (Err why) b

-- from a place on; `sized` where `blocks` was among those before it. Each takes a byte at least, so as many steps as the line has bytes are enough
unfoldable pub fields_from : ℕ → Tag → List ℕ → ℕ → Bool → List ℕ → FieldsTold
fields_from zero t line at sized b = fields_told (Ok sized) b
fields_from (suc steps) t line at sized b =
    let w = word_from line at in
    let d = field_of t line w b in
    if is_empty w then fields_told (Ok sized) b else then_fields d.read sized d.body (fields_from steps t line)

unfoldable pub fields_in : Tag → List ℕ → List ℕ → FieldsTold
fields_in t line b = fields_from (length line) t line 0 false b

-- a line that said how many blocks there are gives a label its length
unfoldable pub measured : Maker → Tag → Bool → List ℕ → Step
measured m t sized b =
    if not sized then Ok m
    else if over m t.kind b then Err (stop m.lines why.Bytes)
    else Ok (record m { tag = Some (record t { line = m.lines }) })

unfoldable pub told : Maker → Tag → List ℕ → List ℕ → Turned
told m t line b = let x = fields_in t line b in turned (on_ok (at_line m.lines x.fields) (λ sized. measured m t sized x.body)) x.body

-- ---- a line that is a block, which opens with a digit

unfoldable pub holds : Maker → Tag → List ℕ → List ℕ → Turned
holds m t line b =
    let d = block_line t.kind line b in
    turned (on_ok (at_line m.lines d.read) (λ _. Ok (record m { tag = Some (record t { held = true }) }))) d.body

-- ---- any line

-- about the open tag; its first word stands at `from`
abbrev pub about_by : Option Tag → Maker → List ℕ → ℕ → List ℕ → Turned
about_by None m line from b = turned (Err (stop m.lines (no_part from part.Tag))) b
about_by (Some t) m line from b = if is_decimal (slice_index line from) then holds m t line b else told m t line b

unfoldable pub about : Maker → List ℕ → ℕ → List ℕ → Turned
about m line from b = about_by m.tag m line from b

unfoldable pub take_line : Maker → List ℕ → List ℕ → List ℕ → Taken
take_line m line b out =
    let w = word_from line 0 in
    let t = about m line w.from b in
    if is_empty w then taken (Ok m) b out
    else if not m.begun then taken (begins m line) b out
    else if next_is line 0 (ascii "label") then opens m Label line w.to b out
    else if next_is line 0 (ascii "chip") then opens m Chip line w.to b out
    else taken t.step t.body out

-- one line more
abbrev pub counted : Maker → Maker
counted m = record m { lines = place_of m.lines 1 }

-- at most 262,143 bytes before its newline
unfoldable pub take_next : Maker → List ℕ → ℕ → List ℕ → List ℕ → Taken
take_next m line long b out =
    if nat_lt 262143 long then taken (Err (stop (place_of m.lines 1) why.Long)) b out else take_line (counted m) line b out

-- behind a line come the others
abbrev pub then_lines : Step → List ℕ → List ℕ → (Maker → List ℕ → List ℕ → Taken) → Taken
then_lines (Ok m) b out others = others m b out
then_lines (Err s) b out others = taken (Err s) b out

unfoldable pub take_lines : List Line → Maker → List ℕ → List ℕ → Taken
take_lines [] m b out = taken (Ok m) b out
take_lines (l ∷ ls) m b out =
    let t = take_next m l.bytes l.long b out in then_lines t.step t.body t.out (take_lines ls)
