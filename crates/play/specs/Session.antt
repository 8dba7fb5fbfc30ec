-- The program play over all its input: the lines that it finds, what each leaves, and the text that they say, in order. Assumes nothing.
use Rattle.std.specs.Prelude.{◌≡◌, ℕ, ◌+◌, ◌-◌, ◌/◌, ◌%◌, ◌^◌, Bool, true, false, List, [], ◌++◌, ◌==◌, nat_lt, if◌then◌else◌}
use Rattle.frame.specs.Number.{part}
use Rattle.print.specs.Line.{Lent, laid, cleared}
use Rattle.rack.specs.Facts.{RackFine}
use Rattle.text.specs.declared.lines.Source.{Source}
use Rattle.text.specs.declared.lines.Reached.{Reached}
use Rattle.text.specs.declared.lines.Reached.TheVariants.{Line, Long, End}
use Rattle.text.specs.declared.lines.Got.{Got}
use Rattle.text.specs.Lines.{has_ended, next_of, is_found, Follows}
use Rattle.text.specs.Mark.{mark_length}
use Rattle.play.specs.declared.session.Session.{Session}
use Rattle.play.specs.Turns.{turn_said, Leaves}

-- where the program stands between two lines: the reading and its buffer, how many lines were read, the rack, the draws, and the bytes of the last line
pub record Stand : Type 0 where
  pub source : Source
  pub buf : List ℕ
  pub count : ℕ
  pub tags : List ℕ
  pub draws : List ℕ
  pub bytes : List ℕ

abbrev pub stand : Source → List ℕ → ℕ → List ℕ → List ℕ → List ℕ → Stand
stand source buf count tags draws bytes = record { source = source; buf = buf; count = count; tags = tags; draws = draws; bytes = bytes }

-- ---- one answer of `next`

-- where line n starts: only the first may have a mark
unfoldable pub start_of : ℕ → List ℕ → ℕ
start_of n line = if n == 1 then mark_length line else 0

abbrev pub first_of : ℕ → ℕ → ℕ → List ℕ → ℕ
first_of n from to buf = from + start_of n (part from (to - from) buf)

-- line n, as it was found in the buffer
abbrev pub line_of : ℕ → Reached → List ℕ → List ℕ
line_of n (Line from to) buf = part (first_of n from to buf) (to - first_of n from to buf) buf
line_of n Long buf = []
line_of n End buf = []

-- it is played, and the next is looked for behind it
pub record Turn (quiet : Bool) (a b : Stand) (said : List ℕ) : Type 0 where
  pub got : Got
  pub found : Follows (next_of a.source a.buf) a.buf b.buf got
  pub onward : b.source ≡ got.source
  pub counted : b.count ≡ (a.count + 1) % 2 ^ 64
  pub leaves : Leaves got.reached (line_of b.count got.reached b.buf) a.tags a.draws a.bytes b.tags b.draws b.bytes
  pub says : said ≡ turn_said quiet b.count got.reached (line_of b.count got.reached b.buf) a.tags a.draws a.bytes b.draws

-- ---- what is handed over at once

-- what was said may wait for the next line where that is at hand, and half of the room is left for it
unfoldable pub may_wait : Source → List ℕ → ℕ → ℕ → Bool
may_wait source buf room at = if has_ended source then false else if nat_lt (room / 2) at then false else is_found (next_of source buf)

-- turns one after the other, all but the first without a read: their texts, in order, each once
pub data Batch (quiet : Bool) (a : Stand) : Stand → List ℕ → Type 0 where
  One : {b : Stand} {said : List ℕ} → Turn quiet a b said → Batch quiet a b said
  More : {b c : Stand} {before said : List ℕ} → Batch quiet a b before → is_found (next_of b.source b.buf) ≡ true → Turn quiet b c said
      → Batch quiet a c (before ++ said)

-- ---- the whole input

-- batches one after the other: all that is handed over
pub data Batches (quiet : Bool) (a : Stand) : Stand → List ℕ → Type 0 where
  None : Batches quiet a a []
  Then : {b c : Stand} {before said : List ℕ} → Batches quiet a b before → Batch quiet b c said → Batches quiet a c (before ++ said)

-- the input was played to its end, and this rack is left
pub record Over (quiet : Bool) (a : Stand) (tags : List ℕ) : Type 0 where
  pub last : Stand
  pub told : List ℕ
  pub batches : Batches quiet a last told
  pub ended : has_ended last.source ≡ true
  pub rack : tags ≡ last.tags

-- ---- what the calls promise, with the text laid into the line of all that is said

-- where a session stands with a rack
abbrev pub stand_of : Session → List ℕ → Stand
stand_of s tags = stand s.source s.buf s.n tags s.draws s.bytes

pub record Stepped (quiet : Bool) (a b : Stand) (out out₁ : Lent) : Type 0 where
  pub said : List ℕ
  pub turn : Turn quiet a b said
  pub fine : RackFine b.tags
  pub text : out₁ ≡ laid out said

-- from the line cleared on
pub record Laid (quiet : Bool) (a b : Stand) (out out₁ : Lent) : Type 0 where
  pub said : List ℕ
  pub batch : Batch quiet a b said
  pub fine : RackFine b.tags
  pub text : out₁ ≡ laid (cleared out) said
