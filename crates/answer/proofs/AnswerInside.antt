-- Every place that is told lies in the frame: what is told has the length that the tests asked for. By the cases of the shape.
-- Assumes nothing.
use mathlib.Core.Path.{◌≡◌, refl}
use mathlib.Core.Bool.{Bool, true, false, not, ◌&&◌}
use mathlib.Core.List.{List}
use Prim.Native.Nat.{ℕ, ◌+◌, ◌-◌, ◌%◌, ◌≤◌}
use native.Mathlib.Omega.{arith}
use lib.Dec.{eqb, ltb, leb}
use lib.ListN.{length, get_or, length-take}
use borrow.Author.Tests.{leb-true, eqb-true}
use Rattle.frame.specs.Choose.{all_of}
use Rattle.frame.specs.Number.{num, part}
use Rattle.frame.specs.CheckSum.{right, content}
use Rattle.frame.specs.Ending.{ends_in}
use Rattle.frame.proofs.Bools.{and_both, if_both}
use Rattle.request.specs.Table.{row_of, has_answer}
use Rattle.request.specs.declared.table.Success.{Success}
use Rattle.request.specs.declared.table.Success.TheVariants as s
use Rattle.request.specs.declared.label.Target.{Target}
use Rattle.reader.specs.declared.command.ChipTask.{ChipTask}
use Rattle.reader.specs.declared.command.ChipTask.TheVariants as p
use Rattle.reader.specs.declared.command.Command.{Command}
use Rattle.reader.specs.declared.command.Command.TheVariants as c
use Rattle.reader.specs.Command.{valid}
use Rattle.answer.specs.declared.reading.Meaning.TheVariants as m
use Rattle.answer.specs.declared.reading.Reading.{Reading}
use Rattle.answer.specs.Answer.{said, said_of, fits, owned, is_error, done_of, block_of, info_of, piece_of, blocks_of, locks_of, success_of}
use Rattle.answer.specs.Answer.{label_reading, found_of, chip_reading, shape_of, reading_of, Inside}
use Rattle.answer.proofs.AnswerPieces.{lock_at, piece_all}

-- the places of a reading lie in a frame of k bytes
abbrev Kept : ℕ → Reading → Type 0
Kept k r = Inside r.meaning k

-- where the tests fail, no place is told
fits_kept : (k : ℕ) (t : Bool) (r : Reading) → (t ≡ true → Kept k r) → Kept k (fits t r)
unfolding Inside
fits_kept k true r h = h refl
fits_kept k false r h = tt

-- .. and of two tests the first may be enough
first_kept : (k : ℕ) (t u : Bool) (r : Reading) → (t ≡ true → Kept k r) → Kept k (fits (t && u) r)
first_kept k t u r h = fits_kept k (t && u) r (λ e. h (and_both t u e).0)

-- ---- labels, whose content is no longer than the frame

module _ (k : ℕ) (x : List ℕ) (short : length x ≤ k) where
  block_kept : (option : Bool) → Kept k (block_of option x)
  unfolding block_of Inside
  block_kept true =
      first_kept k (leb 3 (length x)) (leb (length x) 34 && (eqb (get_or x 0 0) 0 && leb (get_or x 1 0) 1))
      (said (m.LockAndBlock (get_or x 1 0) 2 (length x - 2)))
      (λ e. omega (arith, leb-true 3 (length x) e))
  block_kept false =
      first_kept k (leb 2 (length x)) (leb (length x) 33 && eqb (get_or x 0 0) 0) (said (m.Block 1 (length x - 1)))
      (λ e. omega (arith, leb-true 2 (length x) e))

  blocks_kept : (option : Bool) (count : ℕ) → Kept k (blocks_of option count x)
  unfolding blocks_of Inside
  blocks_kept true count =
      let each = piece_of count x in
      first_kept k (leb 2 each) (leb each 33 && all_of count (lock_at each x)) (said (m.LocksAndBlocks 1 (each - 1) count))
      (λ e.
      let h = leb-true 2 each e in
      let q : 1 + (each - 1) ≡ each = omega arith in
      rw q (omega (arith, piece_all count each x refl (omega arith))))
  blocks_kept false count =
      let each = piece_of count x in
      first_kept k (leb 1 each) (leb each 32) (said (m.Blocks 1 each count)) (λ e. omega (arith, piece_all count each x refl (leb-true 1 each e)))

  locks_kept : (count : ℕ) → Kept k (locks_of count x)
  unfolding locks_of Inside
  locks_kept count =
      let each = piece_of count x in
      first_kept k (eqb each 1) (all_of count (λ i. leb (get_or x (1 + i) 0) 1)) (said (m.Locks 1 count))
      (λ e. let h = eqb-true each 1 e in let g = piece_all count each x refl (omega arith) in omega (arith, rw h at g))

  success_kept : (to : Target) (option : Bool) (success : Success) (more : ℕ) (uid : List ℕ) → Kept k (success_of to option success more uid x)
  unfolding success_of done_of info_of Inside
  success_kept to option s.Never more uid = tt
  success_kept to option s.Done more uid = fits_kept k (eqb (length x) 1 && eqb (get_or x 0 0) 0) (said m.Done) (λ e. tt)
  success_kept to option s.Block more uid = block_kept option
  success_kept to option s.Info more uid =
      let u = part 2 8 x in
      first_kept k (eqb (length x) 15) (eqb (get_or x 0 0) 0 && (eqb (get_or x 1 0) 0x0F && (leb (get_or x 13 0) 31 && owned to uid u)))
      (said_of (m.Info (get_or x 10 0) (get_or x 11 0) (get_or x 12 0) (get_or x 13 0) (get_or x 14 0)) u)
      (λ e. tt)
  success_kept to option s.Blocks more uid = blocks_kept option (more + 1)
  success_kept to option s.Locks more uid = locks_kept (more + 1)

-- ---- chips, of which no place is told

chip_kept : (k : ℕ) (task : ChipTask) (x : List ℕ) → Kept k (chip_reading task x)
unfolding chip_reading Inside
chip_kept k p.Initiate x = fits_kept k (eqb (length x) 1) (said (m.Id (get_or x 0 0))) (λ e. tt)
chip_kept k p.Pcall x = first_kept k (eqb (length x) 1) (eqb (get_or x 0 0 % 16) 0) (said (m.Id (get_or x 0 0))) (λ e. tt)
chip_kept k (p.Marker n) x = first_kept k (eqb (length x) 1) (eqb (get_or x 0 0 % 16) n) (said (m.Id (get_or x 0 0))) (λ e. tt)
chip_kept k (p.Select id) x = first_kept k (eqb (length x) 1) (eqb (get_or x 0 0) id) (said (m.Id (get_or x 0 0))) (λ e. tt)
chip_kept k p.Completion x = tt
chip_kept k p.Reset x = tt
chip_kept k (p.Read a) x = fits_kept k (eqb (length x) 4) (said (m.Word (num x))) (λ e. tt)
chip_kept k p.Uid x = fits_kept k (eqb (length x) 8) (said_of m.Uid x) (λ e. tt)
chip_kept k (p.Write a) x = tt

-- ---- any command

shape_kept : (k : ℕ) (command : Command) (uid x : List ℕ) → length x ≤ k → Kept k (shape_of command uid x)
unfolding shape_of label_reading found_of Inside
shape_kept k (c.Inventory to option family sixteen bits mask) uid x h =
    first_kept k (eqb (length x) 10) (eqb (get_or x 0 0) 0 && ends_in (part 2 8 x) mask bits) (said_of (m.Found (get_or x 1 0)) (part 2 8 x)) (λ e. tt)
shape_kept k (c.Label to option task p) uid x h =
    if_both (Kept k) (has_answer (row_of task).success && is_error x) tt (success_kept k x h to option (row_of task).success p.second uid)
shape_kept k (c.Chip to option task) uid x h = chip_kept k task x
shape_kept k (c.Other kind code) uid x h = tt

pub told_inside : (command : Command) (uid : List ℕ) (n : ℕ) (f : List ℕ) → Inside (reading_of command uid n f).meaning (length f)
unfolding reading_of Inside
told_inside command uid n f =
    let k = length f in
    let h : length (content f) ≤ k = rw length-take (omega arith) in
    if_both (Kept k) (not (valid command n)) tt
    (if_both (Kept k) (ltb k 3) tt (if_both (Kept k) (not (right f)) tt (shape_kept k command uid (content f) h)))
