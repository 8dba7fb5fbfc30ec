-- The pieces of a command: the next word of a line as a target, a byte, a number or a mask. Assumes nothing.
use Rattle.std.specs.Prelude.{ℕ, ◌+◌, ◌%◌, ◌^◌, Bool, List, length, replicate, ◌==◌, if◌then◌else◌, Option, Some, None, Result, Ok, Err, option_and_then, ok_or}
use Rattle.print.specs.Ascii.{ascii}
use Rattle.frame.specs.Number.{num}
use Rattle.request.specs.declared.label.Target.TheVariants as to
use Rattle.text.specs.Words.{same_word}
use Rattle.verbs.specs.declared.tokens.High.{High}
use Rattle.verbs.specs.declared.trouble.What.{What}
use Rattle.verbs.specs.declared.trouble.Trouble.{Trouble}
use Rattle.verbs.specs.declared.pieces.Found.{Found}
use Rattle.verbs.specs.declared.pieces.Aim.{Aim}
use Rattle.verbs.specs.declared.pieces.Mask.{Mask}
use Rattle.verbs.specs.Tokens.{span, is_empty, word_from, text_of, find_in, high_in, byte_in, number_in}
use Rattle.verbs.specs.Trouble.{no}

-- what was found, or what should have stood there
unfoldable pub wanted : {A : Type 0} → Found A → What → Result A Trouble
wanted f what = ok_or f.value (no f.word.from what)

-- the next word from a place on is a given one
unfoldable pub next_is : List ℕ → ℕ → List ℕ → Bool
next_is line at word = same_word (text_of line (word_from line at)) word

-- nothing may stand from a place on; where something does, `what` should
unfoldable pub ended : List ℕ → ℕ → What → Result Unit Trouble
ended line at what = let next = word_from line at in if is_empty next then Ok tt else Err (no next.from what)

-- the next word, read in some way
abbrev pub found_in : {A : Type 0} → (List ℕ → Option A) → List ℕ → ℕ → Found A
found_in read line at = let w = word_from line at in record { value = read (text_of line w); word = w }

-- ---- a byte in hex, and a number

unfoldable pub byte_from : List ℕ → ℕ → Found ℕ
byte_from = found_in byte_in

unfoldable pub number_from : List ℕ → ℕ → Found ℕ
number_from = found_in number_in

-- ---- a target: `all`, `selected`, or a UID of eight bytes

abbrev pub one_of : High → Option Aim
one_of h = if h.count == 8 then Some (record { to = to.One; uid = h.low }) else None

unfoldable pub target_in : List ℕ → Option Aim
target_in text =
    if same_word text (ascii "all") then Some (record { to = to.Everyone; uid = replicate 8 0 })
    else if same_word text (ascii "selected") then Some (record { to = to.Selected; uid = replicate 8 0 })
    else option_and_then one_of (high_in text)

unfoldable pub target_from : List ℕ → ℕ → Found Aim
target_from = found_in target_in

-- ---- a mask: its length in decimal, a slash, its bytes in hex

abbrev pub mask_of : ℕ → High → Option Mask
mask_of bits h = if h.count == 0 then None else Some (record { bits = bits; number = num h.low })

unfoldable pub mask_in : List ℕ → Option Mask
mask_in text =
    let at = find_in text 0 47 in
    let hex = text_of text (span ((at + 1) % 2 ^ 64) (length text)) in
    option_and_then (λ bits. option_and_then (mask_of bits) (high_in hex)) (number_in (text_of text (span 0 at)))

unfoldable pub mask_from : List ℕ → ℕ → Found Mask
mask_from = found_in mask_in
