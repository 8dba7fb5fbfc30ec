-- What is wrong with a line, and its text. Assumes nothing.
use Rattle.std.specs.Prelude.{ℕ, ◌+◌, ◌%◌, ◌^◌, List, ◌++◌, Result, Ok, Err}
use Rattle.print.specs.Ascii.{ascii}
use Rattle.print.specs.Decimal.{decimal_text}
use Rattle.verbs.specs.declared.trouble.What.{What}
use Rattle.verbs.specs.declared.trouble.What.TheVariants as w
use Rattle.verbs.specs.declared.trouble.Trouble.{Trouble}
use Rattle.verbs.specs.declared.trouble.Trouble.TheVariants.{Expected, NoRequest, Full}

-- one step behind another: the first that goes wrong tells
abbrev pub on_ok : {A B E : Type 0} → Result A E → (A → Result B E) → Result B E
on_ok (Ok x) next = next x
on_ok (Err e) next = Err e

-- columns count from 1; numbers wrap, past any line's end
unfoldable pub column_of : ℕ → ℕ
column_of at = (at + 1) % 2 ^ 64

-- at a place something else should stand
abbrev pub no : ℕ → What → Trouble
no at what = Expected (column_of at) what

unfoldable pub what_text : What → List ℕ
what_text w.Event = ascii "an event or a command"
what_text w.Target = ascii "a UID of 16 hex digits, all or selected"
what_text w.Selected = ascii "a Chip_ID of 2 hex digits, a UID of 16, all or selected"
what_text w.Number = ascii "a number of 0 to 255"
what_text w.Byte = ascii "a byte of 2 hex digits"
what_text w.ByteOrLock = ascii "a byte of 2 hex digits or lock"
what_text w.LockOrEnd = ascii "lock or the end of the line"
what_text w.ToLockOrEnd = ascii "to, lock or the end of the line"
what_text w.ToOrEnd = ascii "to or the end of the line"
what_text w.Last = ascii "a last block, no lower than the first"
what_text w.Options = ascii "16, afi, mask or the end of the line"
what_text w.Mask = ascii "a mask as BITS/HEX"
what_text w.Data = ascii "hex digits or \"text\""
what_text w.Digit = ascii "a hex digit"
what_text w.Pair = ascii "two hex digits"
what_text w.Quote = ascii "a closing \""
what_text w.End = ascii "the end of the line"

-- column C: expected WHAT
unfoldable pub expected_text : ℕ → What → List ℕ
expected_text column what =
    (ascii "column " ++ decimal_text column) ++ (ascii ": expected " ++ what_text what)

unfoldable pub trouble_text : Trouble → List ℕ
trouble_text (Expected column what) = expected_text column what
trouble_text NoRequest = ascii "no request has these fields"
trouble_text Full = ascii "too many bytes"
