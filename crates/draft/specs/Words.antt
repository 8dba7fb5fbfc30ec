-- What the words of a rack's text say, and what is wrong with a line. Assumes nothing.
use Rattle.std.specs.Prelude.{Bool, List, ◌++◌, ℕ, length, ◌==◌, if◌then◌else◌, Option, Some, None, option_and_then, Result, Ok, Err}
use Rattle.print.specs.Ascii.{ascii}
use Rattle.print.specs.Decimal.{decimal_text}
use Rattle.verbs.specs.declared.trouble.What.{What}
use Rattle.verbs.specs.declared.trouble.What.TheVariants.{End}
use Rattle.verbs.specs.declared.tokens.High.{High}
use Rattle.verbs.specs.declared.pieces.Found.{Found}
use Rattle.verbs.specs.Tokens.{is_empty, word_from, byte_in, high_in}
use Rattle.verbs.specs.Pieces.{found_in}
use Rattle.verbs.specs.Trouble.{no, column_of, trouble_text}
use Rattle.draft.specs.declared.words.Part.{Part}
use Rattle.draft.specs.declared.words.Part.TheVariants as p
use Rattle.draft.specs.declared.words.Why.{Why}
use Rattle.draft.specs.declared.words.Why.TheVariants as y

-- ---- what is wrong: at a place something else should stand

unfoldable pub no_part : ℕ → Part → Why
no_part at part = y.Part (column_of at) part

unfoldable pub no_what : ℕ → What → Why
no_what at what = y.Line (no at what)

-- the place behind the last word; nothing may stand from a place on
unfoldable pub ended : List ℕ → ℕ → Result ℕ Why
ended line at = let w = word_from line at in if is_empty w then Ok w.from else Err (no_what w.from End)

-- the place behind `locked`, where it stands
unfoldable pub behind : List ℕ → ℕ → Bool → ℕ
behind line at locked = if locked then (word_from line at).to else at

-- ---- the next word as a byte, two hex digits and nothing else; as a UID, sixteen

unfoldable pub pair_in : List ℕ → Option ℕ
pair_in s = if length s == 2 then byte_in s else None

unfoldable pub pair_from : List ℕ → ℕ → Found ℕ
pair_from = found_in pair_in

abbrev pub eight_of : High → Option (List ℕ)
eight_of h = if h.count == 8 then Some h.low else None

unfoldable pub uid_in : List ℕ → Option (List ℕ)
uid_in s = if length s == 16 then option_and_then eight_of (high_in s) else None

unfoldable pub uid_from : List ℕ → ℕ → Found (List ℕ)
uid_from = found_in uid_in

-- ---- the texts

unfoldable pub part_text : Part → List ℕ
part_text p.Edition = ascii "rack edition 1"
part_text p.Tag = ascii "label or chip"
part_text p.Uid = ascii "a UID of 16 hex digits"
part_text p.Field = ascii "a field"
part_text p.State = ascii "a state"
part_text p.YesOrNo = ascii "yes or no"
part_text p.Of = ascii "of"
part_text p.Blocks = ascii "a number of 1 to 256"
part_text p.Size = ascii "a number of 1 to 32"
part_text p.Block = ascii "the number of a block"
part_text p.BlocksFirst = ascii "blocks before the first block"
part_text p.NoMore = ascii "no more bytes"

-- column C: expected WHAT
unfoldable pub expected_text : ℕ → Part → List ℕ
expected_text column part = ascii "column " ++ (decimal_text column ++ (ascii ": expected " ++ part_text part))

unfoldable pub why_text : Why → List ℕ
why_text (y.Part column part) = expected_text column part
why_text (y.Line trouble) = trouble_text trouble
why_text y.Bytes = ascii "the rack has over 65536 bytes here"
why_text y.Tags = ascii "the rack has over 64 tags here"
why_text y.Long = ascii "too long"
