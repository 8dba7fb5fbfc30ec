-- A reading told by numbers, for C: what it is, and what goes with it; every other number is 0. Assumes nothing.
use Rattle.std.specs.Prelude.{ℕ}
use Rattle.frame.specs.Number.{num}
use Rattle.answer.specs.declared.reading.Meaning.{Meaning}
use Rattle.answer.specs.declared.reading.Meaning.TheVariants as m
use Rattle.answer.specs.declared.reading.Reading.{Reading}
use Rattle.face.specs.declared.told.Told.{Told}

-- the numbers in the order of the struct: number, meaning, error; dsfid, afi, blocks, size, ic; lock, id, word; place, length; uid; count
abbrev pub told_by : ℕ → ℕ → ℕ → ℕ → ℕ → ℕ → ℕ → ℕ → ℕ → ℕ → ℕ → ℕ → ℕ → ℕ → ℕ → Told
told_by number meaning error dsfid afi blocks size ic lock id word place long uid count =
    record {
      number = number;
      meaning = meaning;
      error = error;
      dsfid = dsfid;
      afi = afi;
      blocks = blocks;
      size = size;
      ic = ic;
      lock = lock;
      id = id;
      word = word;
      place = place;
      length = long;
      uid = uid;
      count = count;
    }

-- meanings count from 0: refused, error, done, inventory, block, block with lock byte, system information, Chip_ID, chip's block, chip's UID, blocks,
-- blocks with their lock bytes, lock bytes
unfoldable pub told_as : Meaning → ℕ → Told
told_as (m.Refused n) uid = told_by n 0 0 0 0 0 0 0 0 0 0 0 0 0 0
told_as (m.Error code) uid = told_by 0 1 code 0 0 0 0 0 0 0 0 0 0 0 0
told_as m.Done uid = told_by 0 2 0 0 0 0 0 0 0 0 0 0 0 0 0
told_as (m.Found dsfid) uid = told_by 0 3 0 dsfid 0 0 0 0 0 0 0 0 0 uid 0
told_as (m.Block place long) uid = told_by 0 4 0 0 0 0 0 0 0 0 0 place long 0 0
told_as (m.LockAndBlock lock place long) uid = told_by 0 5 0 0 0 0 0 0 lock 0 0 place long 0 0
told_as (m.Info dsfid afi blocks size ic) uid = told_by 0 6 0 dsfid afi blocks size ic 0 0 0 0 0 uid 0
told_as (m.Id id) uid = told_by 0 7 0 0 0 0 0 0 0 id 0 0 0 0 0
told_as (m.Word word) uid = told_by 0 8 0 0 0 0 0 0 0 0 word 0 0 0 0
told_as m.Uid uid = told_by 0 9 0 0 0 0 0 0 0 0 0 0 0 uid 0
told_as (m.Blocks place long count) uid = told_by 0 10 0 0 0 0 0 0 0 0 0 place long 0 count
told_as (m.LocksAndBlocks place long count) uid = told_by 0 11 0 0 0 0 0 0 0 0 0 place long 0 count
told_as (m.Locks place count) uid = told_by 0 12 0 0 0 0 0 0 0 0 0 place 1 0 count

-- a UID is told as the number of its eight bytes
unfoldable pub told_of : Reading → Told
told_of r = told_as r.meaning (num r.uid)
