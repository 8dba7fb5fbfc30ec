-- What the program play makes of one answer of `next`: the rack, the draws, and the text that it says. Assumes nothing.
use Rattle.std.specs.Prelude.{◌≡◌, ℕ, Bool, List, [], ◌++◌, take, Ok, Err}
use Rattle.print.specs.Ascii.{ascii}
use Rattle.print.specs.Decimal.{decimal_text}
use Rattle.print.specs.Hex.{hex_text}
use Rattle.print.specs.Named.{word_number}
use Rattle.print.specs.Line.{Lent, laid}
use Rattle.rack.specs.Facts.{RackFine}
use Rattle.verbs.specs.declared.trouble.Trouble.{Trouble}
use Rattle.verbs.specs.Trouble.{trouble_text}
use Rattle.script.specs.declared.lines.Action.TheVariants as act
use Rattle.script.specs.Commands.{Answer}
use Rattle.script.specs.Lines.{Effect, effect_of}
use Rattle.text.specs.declared.lines.Reached.{Reached}
use Rattle.text.specs.declared.lines.Reached.TheVariants.{Line, Long, End}
use Rattle.play.specs.Told.{outcome_of, event_text}

-- line n cannot be read; it is too long
unfoldable pub wrong_text : ℕ → Trouble → List ℕ
wrong_text n trouble = word_number (ascii "line ") n ++ (ascii ": " ++ (trouble_text trouble ++ ascii "\n"))

unfoldable pub long_text : ℕ → List ℕ
long_text n = word_number (ascii "line ") n ++ ascii ": too long\n"

-- draws as a line that asks for them again
unfoldable pub draws_text : ℕ → List ℕ → List ℕ
draws_text n draws = decimal_text n ++ (ascii " draws" ++ (hex_text draws ++ ascii "\n"))

-- ---- what a line leaves, by what comes of it. An event takes the first bytes for its frame; the system's draws may be any

abbrev pub rack_by : Answer → List ℕ → List ℕ → List ℕ → List ℕ
rack_by (Ok act.Nothing) draws bytes tags = tags
rack_by (Ok (act.Play number n)) draws bytes tags = (outcome_of tags number (take n bytes) draws).rack
rack_by (Ok act.Random) draws bytes tags = tags
rack_by (Err trouble) draws bytes tags = tags

abbrev pub DrawsBy : Answer → List ℕ → List ℕ → Type 0
DrawsBy (Ok act.Nothing) draws draws₁ = draws₁ ≡ draws
DrawsBy (Ok (act.Play number n)) draws draws₁ = draws₁ ≡ draws
DrawsBy (Ok act.Random) draws draws₁ = Unit
DrawsBy (Err trouble) draws draws₁ = draws₁ ≡ draws

abbrev pub text_by : Answer → Bool → ℕ → List ℕ → List ℕ → List ℕ → List ℕ → List ℕ
text_by (Ok act.Nothing) quiet n draws bytes tags draws₁ = []
text_by (Ok (act.Play number m)) quiet n draws bytes tags draws₁ = event_text quiet n number (take m bytes) draws tags
text_by (Ok act.Random) quiet n draws bytes tags draws₁ = draws_text n draws₁
text_by (Err trouble) quiet n draws bytes tags draws₁ = wrong_text n trouble

-- ---- a turn: a line is played; one that is too long is told, and the end is silent, and both change nothing

abbrev pub turn_effect : Reached → List ℕ → List ℕ → List ℕ → Effect
turn_effect (Line from to) line draws bytes = effect_of line draws bytes
turn_effect Long line draws bytes = record { action = Ok act.Nothing; draws = draws; bytes = bytes }
turn_effect End line draws bytes = record { action = Ok act.Nothing; draws = draws; bytes = bytes }

abbrev pub turn_text : Reached → ℕ → List ℕ → List ℕ
turn_text (Line from to) n said = said
turn_text Long n said = long_text n
turn_text End n said = []

-- all that is said of it
abbrev pub turn_said : Bool → ℕ → Reached → List ℕ → List ℕ → List ℕ → List ℕ → List ℕ → List ℕ
turn_said quiet n reached line tags draws bytes draws₁ =
    let x = turn_effect reached line draws bytes in turn_text reached n (text_by x.action quiet n x.draws x.bytes tags draws₁)

-- what it leaves of tags, draws and bytes
pub record Leaves (reached : Reached) (line tags draws bytes tags₁ draws₁ bytes₁ : List ℕ) : Type 0 where
  pub rack : let x = turn_effect reached line draws bytes in tags₁ ≡ rack_by x.action x.draws x.bytes tags
  pub drawn : let x = turn_effect reached line draws bytes in DrawsBy x.action x.draws draws₁
  pub read : bytes₁ ≡ (turn_effect reached line draws bytes).bytes

-- what the call promises: what is left, and the text, laid behind what stands in the line
pub record Turned (quiet : Bool) (n : ℕ) (reached : Reached) (line tags draws bytes : List ℕ) (out : Lent) (tags₁ draws₁ bytes₁ : List ℕ) (out₁ : Lent) : Type 0 where
  pub leaves : Leaves reached line tags draws bytes tags₁ draws₁ bytes₁
  pub fine : RackFine tags₁
  pub text : out₁ ≡ laid out (turn_said quiet n reached line tags draws bytes draws₁)
