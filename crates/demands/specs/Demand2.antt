-- Demand 2: "The reader's side writes requests that the tags take as meant, and reads their answers back to the same meaning", through the rack.
-- Assumes nothing.
use Rattle.std.specs.Prelude.{◌≡◌, Bool, true, List, [], ℕ, suc, ◌≤◌, ◌<◌, length, get_or, take}
use Rattle.frame.specs.Number.{Bytes}
use Rattle.frame.specs.Judge.{fine}
use Rattle.request.specs.declared.label.Target.{Target}
use Rattle.request.specs.declared.label.Family.{Family}
use Rattle.reader.specs.declared.command.Command.{Command}
use Rattle.reader.specs.declared.command.Command.TheVariants.{Inventory}
use Rattle.reader.specs.Command.{valid}
use Rattle.reader.specs.Request.{encode, written_of, out_of, event_for, label_takes, chip_takes, bytes_sent}
use Rattle.answer.specs.declared.reading.Meaning.TheVariants.{Refused}
use Rattle.answer.specs.declared.reading.Reading.{Reading}
use Rattle.answer.specs.Answer.{said, reading_of}
use Rattle.accord.specs.Tags.{label_meaning, chip_meaning, bytes_told, bytes_meant}
use Rattle.rack.specs.declared.tag.Said.{Said}
use Rattle.rack.specs.declared.tag.Said.TheVariants as s
use Rattle.rack.specs.File.{count_of, kind_at, body_at, contents, verdict_of}
use Rattle.rack.specs.Tag.{Event, carrying, aired, next_body, said_by, speaks}
use Rattle.event.specs.Event.{Outcome, answers, least, event_of}
use Rattle.inventory.specs.Walk.{PerEvent, request, slot_outcome}

-- ---- what is said, and what it means

-- the reading of what a tag said, and the block that is told with it
unfoldable pub meaning_of : Said → List ℕ → Reading
meaning_of s.Nothing b = said (Refused 8)
meaning_of (s.Label a) b = label_meaning a b
meaning_of (s.Chip a) b = chip_meaning a b

unfoldable pub block_meant : Said → List ℕ → List ℕ
block_meant s.Nothing b = []
block_meant (s.Label a) b = bytes_meant a b
block_meant (s.Chip a) b = []

-- what a command means to the tags: asked of labels, asked of chips, and the bytes to be written
abbrev pub meant : Command → List ℕ → List ℕ → Event
meant c uid d = carrying (record { label = label_takes c uid; chip = chip_takes c d }) (bytes_sent c d)

-- ---- the request, the rack, the reading

-- the frame that the writer leaves at the front of its buffer
abbrev pub written_frame : Command → List ℕ → List ℕ → List ℕ → List ℕ
written_frame c uid d buffer = take (written_of c uid d buffer).length (out_of c uid d buffer)

-- a request that was written, and a rack that can be asked
pub record Asked (c : Command) (uid d buffer r ds out : List ℕ) : Type 0 where
  pub uid_long : length uid ≡ 8
  pub written : (written_of c uid d buffer).number ≡ 0
  pub bytes : Bytes r
  pub well_formed : verdict_of r ≡ fine
  pub drawn : length ds ≡ count_of r
  pub room : least ≤ length out

-- taken as meant: the call is not refused, and each tag does what the command means, and says it
pub record TakenByAll (event : Event) (r ds : List ℕ) (o : Outcome) : Type 0 where
  pub accepted : o.report.number ≡ 0
  pub in_place : contents o.rack ≡ contents r
  pub does : (i : ℕ) → i < count_of r → body_at o.rack i ≡ next_body (kind_at r i) event (get_or ds i 0) (body_at r i)
  pub answered : o.report.answered ≡ length (answers r event ds)

-- what tag i says to an event
abbrev pub said_at : List ℕ → Event → List ℕ → ℕ → Said
said_at r event ds i = said_by (kind_at r i) event (get_or ds i 0) (body_at r i)

-- read back: one tag alone speaks, and the first `length` bytes of the answer buffer are read to that very tag's meaning
pub record ReadBack (c : Command) (uid d : List ℕ) (event : Event) (r ds : List ℕ) (o : Outcome) : Type 0 where
  pub who : ℕ
  pub there : who < count_of r
  pub spoke : speaks (said_at r event ds who) ≡ true
  pub alone : (i : ℕ) → i < count_of r → speaks (said_at r event ds i) ≡ true → i ≡ who
  pub reading : reading_of c uid (length d) (take o.report.length o.out) ≡ meaning_of (said_at r event ds who) (body_at r who)
  pub block :
      bytes_told (reading_of c uid (length d) (take o.report.length o.out)).meaning (take o.report.length o.out)
      ≡ block_meant (said_at r event ds who) (body_at r who)

pub record Understood (c : Command) (uid d : List ℕ) (event : Event) (r ds : List ℕ) (o : Outcome) : Type 0 where
  pub taken : TakenByAll event r ds o
  pub heard : o.report.answered ≡ 1 → ReadBack c uid d event r ds o

-- the demand: what was written is played on the rack
abbrev pub Demand2 : Type 0
Demand2 =
    (c : Command) (uid d buffer r ds out : List ℕ) → Asked c uid d buffer r ds out
    → Understood c uid d (meant c uid d) r ds (event_of r (event_for c) (written_frame c uid d buffer) ds out)

-- after a sixteen-slot Inventory also in each later slot, which an end of frame opens; each event has its own draws and buffer
pub record AskedSlots (to : Target) (option : Bool) (family : Family) (bits mask : ℕ) (d r : List ℕ) (draws outs : PerEvent) : Type 0 where
  pub request : valid (Inventory to option family true bits mask) (length d) ≡ true
  pub bytes : Bytes r
  pub well_formed : verdict_of r ≡ fine
  pub drawn : (b m s : ℕ) → length (draws b m s) ≡ count_of r
  pub room : (b m s : ℕ) → least ≤ length (outs b m s)

abbrev pub Demand2Slots : Type 0
Demand2Slots =
    (to : Target) (option : Bool) (family : Family) (bits mask : ℕ) (uid d r : List ℕ) (draws outs : PerEvent)
    → AskedSlots to option family bits mask d r draws outs → (s : ℕ) → s < 15
    → (request family bits mask ≡ encode (Inventory to option family true bits mask) uid d)
    × Understood (Inventory to option family true bits mask) uid d (aired 4 []) (slot_outcome draws outs r family bits mask s).rack (draws bits mask (suc s))
    (slot_outcome draws outs r family bits mask (suc s))
