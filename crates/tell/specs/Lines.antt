-- The line of one reply. Assumes nothing.
use Rattle.std.specs.Prelude.{not, List, [], ◌∷◌, ◌++◌, ℕ, ◌-◌, eqb, ltb, length, if◌then◌else◌}
use Rattle.frame.specs.Number.{part}
use Rattle.print.specs.Ascii.{ascii}
use Rattle.print.specs.Decimal.{decimal_text}
use Rattle.print.specs.Hex.{hex_text}
use Rattle.print.specs.Named.{word_number}
use Rattle.print.specs.Puts.{spaces}
use Rattle.request.specs.declared.signal.Signal.{Signal}
use Rattle.event.specs.declared.call.Report.{Report}
use Rattle.tell.specs.Names.{name_text}

-- a refusal, silence, the bytes of an answer that was alone, or a collision; a space in front
unfoldable pub reply_text : Report → List ℕ → List ℕ
reply_text report answer =
    if not (eqb report.number 0) then word_number (ascii " refused ") report.number
    else if eqb report.answered 0 then ascii " silence"
    else if eqb report.answered 1 then hex_text (part 0 report.length answer)
    else word_number (ascii " collision of ") report.answered

-- line n: what was asked and the reply
unfoldable pub front_text : ℕ → ℕ → Signal → Report → List ℕ → List ℕ
front_text n number signal report answer = decimal_text n ++ (ascii " " ++ (name_text number signal ++ (ascii ":" ++ reply_text report answer)))

-- the spaces behind a front of so many characters: up to column 60, and two at least
unfoldable pub gap_of : ℕ → ℕ
gap_of width = if ltb width 58 then 60 - width else 2

-- a meaning behind n spaces, where there is one
unfoldable pub beside_text : ℕ → List ℕ → List ℕ
beside_text n [] = []
beside_text n (c ∷ s) = spaces n ++ (c ∷ s)

-- a front, and what it means beside it
unfoldable pub line_text : List ℕ → List ℕ → List ℕ
line_text front meaning = front ++ (beside_text (gap_of (length front)) meaning ++ ascii "\n")

-- an event by its number
unfoldable pub event_word : ℕ → List ℕ
event_word number =
    if eqb number 1 then ascii "off"
    else if eqb number 2 then ascii "on"
    else if eqb number 3 then ascii "label"
    else if eqb number 4 then ascii "eof"
    else if eqb number 5 then ascii "chip"
    else ascii "event"

-- line n: the event's word and the reply
unfoldable pub quiet_text : ℕ → ℕ → Report → List ℕ → List ℕ
quiet_text n number report answer =
    decimal_text n ++ (ascii " " ++ (event_word number ++ (ascii ":" ++ (reply_text report answer ++ ascii "\n"))))
