-- The fields of a chip: FORMAT, "Rack as text". Assumes nothing.
use Rattle.std.specs.Prelude.{List, ℕ, set, if◌then◌else◌, Option, Some, None, ok_or, Ok, Err}
use Rattle.print.specs.Ascii.{ascii}
use Rattle.text.specs.Words.{same_word}
use Rattle.verbs.specs.declared.trouble.What.TheVariants as what
use Rattle.verbs.specs.declared.tokens.Span.{Span}
use Rattle.verbs.specs.Tokens.{word_from, text_of}
use Rattle.draft.specs.declared.words.Part.{Part}
use Rattle.draft.specs.declared.words.Part.TheVariants as part
use Rattle.draft.specs.declared.bodies.ChipEdit.TheVariants.{State, Id, Reload}
use Rattle.draft.specs.Words.{no_part, no_what, pair_from}
use Rattle.draft.specs.Bodies.{Draft, draft, taken, chip_changed}

-- ---- words

unfoldable pub later_state : List ℕ → Option ℕ
later_state s =
    if same_word s (ascii "selected") then Some 3
    else if same_word s (ascii "deselected") then Some 4
    else if same_word s (ascii "deactivated") then Some 5
    else None

unfoldable pub state_of : List ℕ → Option ℕ
state_of s =
    if same_word s (ascii "off") then Some 0
    else if same_word s (ascii "ready") then Some 1
    else if same_word s (ascii "inventory") then Some 2
    else later_state s

unfoldable pub yes_or_no : List ℕ → Option ℕ
yes_or_no s = if same_word s (ascii "no") then Some 0 else if same_word s (ascii "yes") then Some 1 else None

-- ---- a field, by the word behind its name: the body with it, and the place behind that word

-- a word that says a number, which is put into the body; or else something else should stand there
abbrev pub by_word : Option ℕ → Part → Span → (ℕ → List ℕ) → List ℕ → Draft ℕ
by_word said should w becomes b = taken (ok_or said (no_part w.from should)) (λ v. draft (Ok w.to) (becomes v)) b

unfoldable pub state_field : List ℕ → ℕ → List ℕ → Draft ℕ
state_field line at b = let w = word_from line at in by_word (state_of (text_of line w)) part.State w (λ v. chip_changed (State v) b) b

unfoldable pub id_field : List ℕ → ℕ → List ℕ → Draft ℕ
id_field line at b =
    let p = pair_from line at in taken (ok_or p.value (no_what p.word.from what.Byte)) (λ v. draft (Ok p.word.to) (chip_changed (Id v) b)) b

unfoldable pub reload_field : List ℕ → ℕ → List ℕ → Draft ℕ
reload_field line at b = let w = word_from line at in by_word (yes_or_no (text_of line w)) part.YesOrNo w (λ v. chip_changed (Reload v) b) b

-- the option stands at 79
unfoldable pub fixed_field : List ℕ → ℕ → List ℕ → Draft ℕ
fixed_field line at b = let w = word_from line at in by_word (yes_or_no (text_of line w)) part.YesOrNo w (λ v. set b 79 v) b

-- the field whose name stands at w
unfoldable pub chip_field : List ℕ → Span → List ℕ → Draft ℕ
chip_field line w b =
    let name = text_of line w in
    if same_word name (ascii "state") then state_field line w.to b
    else if same_word name (ascii "id") then id_field line w.to b
    else if same_word name (ascii "fixed") then fixed_field line w.to b
    else if same_word name (ascii "reload") then reload_field line w.to b
    else draft (Err (no_part w.from part.Field)) b
