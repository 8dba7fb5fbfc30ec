-- The fields of a label: FORMAT, "Rack as text". Assumes nothing.
use Rattle.std.specs.Prelude.{Bool, true, false, not, List, [], ◌∷◌, ℕ, ◌+◌, ◌-◌, ◌*◌, ◌/◌, eqb, ltb, leb, length, set, if◌then◌else◌, Option, Some, None, option_and_then, Ok, Err, ok_or}
use Rattle.std.proofs.lemmas.List.Edits.{sets}
use Rattle.frame.specs.Number.{num}
use Rattle.print.specs.Ascii.{ascii}
use Rattle.text.specs.Words.{same_word}
use Rattle.text.specs.Count.{count_in}
use Rattle.verbs.specs.declared.trouble.What.TheVariants as what
use Rattle.verbs.specs.declared.tokens.Span.{Span}
use Rattle.verbs.specs.declared.tokens.High.{High}
use Rattle.verbs.specs.declared.pieces.Mask.{Mask}
use Rattle.verbs.specs.Tokens.{span, word_from, text_of, find_in, high_in, number_in}
use Rattle.verbs.specs.Pieces.{next_is, number_from}
use Rattle.verbs.specs.Data.{place_of}
use Rattle.draft.specs.declared.words.Part.TheVariants as part
use Rattle.draft.specs.declared.labels.Reached.{Reached}
use Rattle.draft.specs.declared.bodies.Edit.TheVariants as edit
use Rattle.draft.specs.Words.{no_part, no_what, behind, pair_from}
use Rattle.draft.specs.Bodies.{Draft, draft, taken, changed}
use Rattle.draft.specs.Chips.{by_word}

-- ---- the state

unfoldable pub state_of : List ℕ → Option ℕ
state_of s =
    if same_word s (ascii "off") then Some 0
    else if same_word s (ascii "ready") then Some 1
    else if same_word s (ascii "quiet") then Some 2
    else if same_word s (ascii "selected") then Some 3
    else None

unfoldable pub state_field : List ℕ → ℕ → List ℕ → Draft ℕ
state_field line at b = let w = word_from line at in by_word (state_of (text_of line w)) part.State w (λ v. changed (edit.State v) b) b

-- ---- AFI and DSFID, each with `locked` behind it or not; IC reference; slot

unfoldable pub afi_field : List ℕ → ℕ → List ℕ → Draft ℕ
afi_field line at b =
    let p = pair_from line at in
    let locked = next_is line p.word.to (ascii "locked") in
    taken (ok_or p.value (no_what p.word.from what.Byte)) (λ v. draft (Ok (behind line p.word.to locked)) (changed (edit.Afi v locked) b)) b

unfoldable pub dsfid_field : List ℕ → ℕ → List ℕ → Draft ℕ
dsfid_field line at b =
    let p = pair_from line at in
    let locked = next_is line p.word.to (ascii "locked") in
    taken (ok_or p.value (no_what p.word.from what.Byte)) (λ v. draft (Ok (behind line p.word.to locked)) (changed (edit.Dsfid v locked) b)) b

-- it stands at 13
unfoldable pub ic_field : List ℕ → ℕ → List ℕ → Draft ℕ
ic_field line at b = let p = pair_from line at in taken (ok_or p.value (no_what p.word.from what.Byte)) (λ v. draft (Ok p.word.to) (set b 13 v)) b

unfoldable pub slot_field : List ℕ → ℕ → List ℕ → Draft ℕ
slot_field line at b =
    let n = number_from line at in
    taken (ok_or n.value (no_what n.word.from what.Number)) (λ v. draft (Ok n.word.to) (changed (edit.Slot v) b)) b

-- ---- a mask: its bits in decimal, a slash, and as few bytes in hex as hold it

abbrev pub mask_by : ℕ → ℕ → High → Option Mask
mask_by bits digits h =
    if not (eqb h.count ((bits + 7) / 8)) then None
    else if not (eqb digits (2 * ((bits + 7) / 8))) then None
    else Some (record { bits = bits; number = num h.low })

unfoldable pub mask_of : ℕ → List ℕ → Option Mask
mask_of bits hex = if ltb 64 bits then None else option_and_then (mask_by bits (length hex)) (high_in hex)

unfoldable pub mask_in : List ℕ → Option Mask
mask_in s =
    let at = find_in s 0 47 in
    if leb (length s) at then None
    else option_and_then (λ bits. mask_of bits (text_of s (span (place_of at 1) (length s)))) (number_in (text_of s (span 0 at)))

unfoldable pub mask_field : List ℕ → ℕ → List ℕ → Draft ℕ
mask_field line at b =
    let w = word_from line at in
    taken (ok_or (mask_in (text_of line w)) (no_what w.from what.Mask)) (λ m. draft (Ok w.to) (changed (edit.Mask m.bits m.number) b)) b

-- ---- blocks N of S

-- a number of 1 to most, less 1
abbrev pub less_by : ℕ → ℕ → Option ℕ
less_by most v = if ltb v 1 then None else if ltb most v then None else if ltb 256 v then None else Some (v - 1)

unfoldable pub less_one : List ℕ → ℕ → Option ℕ
less_one word most = option_and_then (less_by most) (count_in word)

-- how many bytes each has, behind `of`
unfoldable pub size_field : List ℕ → ℕ → ℕ → List ℕ → Draft ℕ
size_field line at blocks b = let w = word_from line at in by_word (less_one (text_of line w) 32) part.Size w (λ size. sets b 11 (blocks ∷ size ∷ [])) b

unfoldable pub of_field : List ℕ → ℕ → ℕ → List ℕ → Draft ℕ
of_field line at blocks b =
    let next = word_from line at in
    if next_is line at (ascii "of") then size_field line next.to blocks b else draft (Err (no_part next.from part.Of)) b

unfoldable pub blocks_field : List ℕ → ℕ → List ℕ → Draft ℕ
blocks_field line at b =
    let w = word_from line at in
    taken (ok_or (less_one (text_of line w) 256) (no_part w.from part.Blocks)) (λ blocks. of_field line w.to blocks b) b

-- ---- the field whose name stands at w; `blocks` only before the first block has been said (held)

unfoldable pub plain_field : List ℕ → Span → List ℕ → Draft ℕ
plain_field line w b =
    let name = text_of line w in
    if same_word name (ascii "afi") then afi_field line w.to b
    else if same_word name (ascii "dsfid") then dsfid_field line w.to b
    else if same_word name (ascii "state") then state_field line w.to b
    else if same_word name (ascii "ic") then ic_field line w.to b
    else if same_word name (ascii "slot") then slot_field line w.to b
    else if same_word name (ascii "mask") then mask_field line w.to b
    else draft (Err (no_part w.from part.Field)) b

-- the place behind a field, and whether it said how many blocks there are
abbrev pub reached : Bool → Draft ℕ → Draft Reached
reached sized d = taken d.read (λ to. draft (Ok (record { to = to; sized = sized })) d.body) d.body

unfoldable pub label_field : List ℕ → Span → Bool → List ℕ → Draft Reached
label_field line w held b =
    let name = text_of line w in
    if not (same_word name (ascii "blocks")) then reached false (plain_field line w b)
    else if held then draft (Err (no_part w.from part.BlocksFirst)) b
    else reached true (blocks_field line w.to b)
