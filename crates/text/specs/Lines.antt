-- Lines from a reader, through a buffer: where a line ends, and where the reading stands. Assumes nothing.
use Rattle.std.specs.Prelude.{Bool, true, false, not, List, ◌≡◌, ℕ, ◌+◌, ◌-◌, ◌≤◌, ◌<◌, eqb, ltb, length, get_or, take, drop, if◌then◌else◌}
use Rattle.std.proofs.lemmas.List.Edits.{sets}
use Rattle.frame.specs.Number.{part}
use Rattle.text.specs.Words.{lead}
use Rattle.text.specs.declared.lines.Source.{Source}
use Rattle.text.specs.declared.lines.Source.TheVariants.{Holding, Ended}
use Rattle.text.specs.declared.lines.Reached.{Reached}
use Rattle.text.specs.declared.lines.Reached.TheVariants.{Line, Long, End}
use Rattle.text.specs.declared.lines.Got.{Got}

-- a line's places are within m bytes
abbrev pub Inside : Reached → ℕ → Type 0
Inside (Line from to) m = (from ≤ to) × (to ≤ m)
Inside Long m = Unit
Inside End m = Unit

-- only the end of the input is no line
abbrev pub is_end : Reached → Bool
is_end (Line from to) = false
is_end Long = false
is_end End = true

-- nothing more comes
abbrev pub has_ended : Source → Bool
has_ended (Holding start end) = false
has_ended (Ended start end) = true

-- where the reading stands at the input's end
abbrev pub ended_at : Source
ended_at = Ended 0 0

-- ---- what is found

-- what is no line
abbrev pub no_line : Reached → Source → Got
no_line reached source = record { reached = reached; source = source }

-- a byte within a line
abbrev pub in_line : ℕ → Bool
in_line c = not (eqb c 10)

-- the place of the first newline of s[from..to], or `to`
unfoldable pub newline_in : List ℕ → ℕ → ℕ → ℕ
newline_in s from to = from + lead in_line (drop from (take to s))

-- the end of s[from..to], which a newline ends: a carriage return right before it does not count
unfoldable pub line_end : List ℕ → ℕ → ℕ → ℕ
line_end s from to = if eqb to from then to else if eqb (get_or s (to - 1) 0) 13 then to - 1 else to

abbrev pub line_at : List ℕ → ℕ → ℕ → Source → Got
line_at s from to source = record { reached = Line from (line_end s from to); source = source }

-- the last line, which no newline ends, unless nothing is left
unfoldable pub last_line : ℕ → Got
last_line to = if eqb to 0 then no_line End ended_at else record { reached = Line 0 to; source = ended_at }

-- no more comes: what stood before a read that failed is no line
unfoldable pub stopped_at : ℕ → Bool → Got
stopped_at to fine = if fine then last_line to else no_line End ended_at

-- ---- the next line

-- s[start..end] moved to the front
abbrev pub to_front : List ℕ → ℕ → ℕ → List ℕ
to_front s start end = sets s 0 (part start (end - start) s)

-- the next line is there without a read, or is to be read behind the first n bytes of a buffer
pub data Next : Type 0 where
  Found : Got → Next
  Wanting : ℕ → List ℕ → Next

unfoldable pub next_of : Source → List ℕ → Next
next_of (Ended start end) buf = Found (no_line End (Ended start end))
next_of (Holding start end) buf =
    if ltb (length buf) end then Found (no_line End ended_at)
    else if ltb end start then Found (no_line End ended_at)
    else
    let at = newline_in buf start end in
    if ltb at end then Found (line_at buf start at (Holding (at + 1) end))
    else Wanting (end - start) (to_front buf start end)

-- no read is needed
abbrev pub is_found : Next → Bool
is_found (Found g) = true
is_found (Wanting n front) = false

-- where the reading stands behind a line that was too long: at the input's end, or behind the newline, which is among the m bytes of the last read
pub data Passed (new : List ℕ) (g : Got) : Type 0 where
  Over : g ≡ no_line Long ended_at → Passed new g
  Behind : (m : ℕ) → m ≤ length new → newline_in new 0 m < m → g ≡ no_line Long (Holding (newline_in new 0 m + 1) m) → Passed new g

-- reads may bring any bytes behind the first n, which stay; what is found is told by the buffer that they leave
pub data Brought (n : ℕ) (old new : List ℕ) (g : Got) : Type 0 where
  -- m bytes are in it, a newline among those behind the first n
  Whole : (m : ℕ) → m ≤ length new → take n new ≡ take n old → newline_in new n m < m
      → g ≡ line_at new 0 (newline_in new n m) (Holding (newline_in new n m + 1) m) → Brought n old new g
  -- m bytes are in it, none of those a newline, and no more comes
  Last : (m : ℕ) (fine : Bool) → m ≤ length new → take n new ≡ take n old → newline_in new n m ≡ m → g ≡ stopped_at m fine → Brought n old new g
  -- it was full without one, and the rest of the line was passed over
  TooLong : Passed new g → Brought n old new g

-- what comes of it, the buffer as it was and as it is left
abbrev pub Follows : Next → List ℕ → List ℕ → Got → Type 0
Follows (Found g) old new r = (r ≡ g) × (new ≡ old)
Follows (Wanting n front) old new r = Brought n front new r
