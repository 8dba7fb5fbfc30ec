-- An error is read of its own frame alone: 01 and one of the six codes, to a command that has errors. No other shape is read as an error.
-- Assumes nothing.
use Rattle.std.specs.Prelude.{if◌then◌else◌}
use mathlib.Core.Path.{◌≡◌, refl, sym, ap, ◌∙◌}
use mathlib.Core.Bool.{Bool, true, false, ◌&&◌, false≢true}
use mathlib.Core.List.{List, [], ◌∷◌}
use Prim.Native.Nat.{ℕ, suc, ◌+◌, ◌*◌, ◌%◌}
use native.Mathlib.Omega.{arith}
use lib.Dec.{eqb, leb}
use lib.ListN.{length, get_or}
use borrow.Author.Tests.{eqb-true}
use Rattle.frame.specs.Choose.{all_of}
use Rattle.frame.specs.Number.{part, Bytes}
use Rattle.frame.specs.CheckSum.{content, framed}
use Rattle.frame.specs.Ending.{ends_in}
use Rattle.frame.proofs.Bools.{and_both}
use Rattle.frame.proofs.Lists.{window_all}
use Rattle.request.specs.Table.{row_of, has_answer}
use Rattle.request.specs.declared.table.Task.{Task}
use Rattle.request.specs.declared.table.Success.{Success}
use Rattle.request.specs.declared.table.Success.TheVariants as s
use Rattle.request.specs.declared.label.Params.{Params}
use Rattle.request.specs.declared.label.Target.{Target}
use Rattle.label_body.specs.Answer.{answer_frame}
use Rattle.reader.specs.declared.command.ChipTask.{ChipTask}
use Rattle.reader.specs.declared.command.ChipTask.TheVariants as p
use Rattle.reader.specs.declared.command.Command.{Command}
use Rattle.reader.specs.declared.command.Command.TheVariants.{Inventory, Label, Chip, Other}
use Rattle.reader.specs.Command.{valid}
use Rattle.answer.specs.declared.reading.Meaning.{Meaning}
use Rattle.answer.specs.declared.reading.Meaning.TheVariants as m
use Rattle.answer.specs.declared.reading.Reading.{Reading}
use Rattle.answer.specs.Answer.{said, fits, error_code, is_error, done_of, block_of, piece_of, blocks_of, locks_of, owned, info_of, success_of}
use Rattle.answer.specs.Answer.{label_reading, found_of, chip_reading, shape_of, may_err, reading_of}
use Rattle.accord.proofs.AnswerRight.{as_read, fits_either, told_right}
use Rattle.accord.proofs.AnswerRead.{error_read}

-- an error's code and 1; 0 for every other meaning
abbrev code_of : Meaning → ℕ
code_of (m.Refused n) = 0
code_of (m.Error code) = suc code
code_of m.Done = 0
code_of (m.Found dsfid) = 0
code_of (m.Block place long) = 0
code_of (m.LockAndBlock lock place long) = 0
code_of (m.Info dsfid afi blocks size ic) = 0
code_of (m.Id id) = 0
code_of (m.Word word) = 0
code_of m.Uid = 0
code_of (m.Blocks place long count) = 0
code_of (m.LocksAndBlocks place long count) = 0
code_of (m.Locks place count) = 0

abbrev NoError : Reading → Type 0
NoError r = code_of r.meaning ≡ 0

fits_plain : (t : Bool) (r : Reading) → NoError r → NoError (fits t r)
fits_plain t r h = fits_either NoError t r refl h

-- ---- no success is an error

block_plain : (option : Bool) (c : List ℕ) → NoError (block_of option c)
unfolding block_of
block_plain true c = fits_plain (leb 3 (length c) && (leb (length c) 34 && (eqb (get_or c 0 0) 0 && leb (get_or c 1 0) 1))) _ refl
block_plain false c = fits_plain (leb 2 (length c) && (leb (length c) 33 && eqb (get_or c 0 0) 0)) _ refl

blocks_plain : (option : Bool) (count : ℕ) (c : List ℕ) → NoError (blocks_of option count c)
unfolding blocks_of
blocks_plain true count c =
    let each = piece_of count c in
    fits_plain (leb 2 each && (leb each 33 && all_of count (λ i. leb (get_or c (1 + i * each) 0) 1))) _ refl
blocks_plain false count c = fits_plain (leb 1 (piece_of count c) && leb (piece_of count c) 32) _ refl

success_plain : (to : Target) (option : Bool) (success : Success) (more : ℕ) (uid c : List ℕ) → NoError (success_of to option success more uid c)
unfolding success_of done_of info_of locks_of
success_plain to option s.Never more uid c = refl
success_plain to option s.Done more uid c = fits_plain (eqb (length c) 1 && eqb (get_or c 0 0) 0) _ refl
success_plain to option s.Block more uid c = block_plain option c
success_plain to option s.Blocks more uid c = blocks_plain option (more + 1) c
success_plain to option s.Locks more uid c =
    fits_plain (eqb (piece_of (more + 1) c) 1 && all_of (more + 1) (λ i. leb (get_or c (1 + i) 0) 1)) _ refl
success_plain to option s.Info more uid c =
    fits_plain
    (eqb (length c) 15 && (eqb (get_or c 0 0) 0 && (eqb (get_or c 1 0) 0x0F && (leb (get_or c 13 0) 31 && owned to uid (part 2 8 c))))) _ refl

found_plain : (bits mask : ℕ) (c : List ℕ) → NoError (found_of bits mask c)
unfolding found_of
found_plain bits mask c = fits_plain (eqb (length c) 10 && (eqb (get_or c 0 0) 0 && ends_in (part 2 8 c) mask bits)) _ refl

chip_plain : (task : ChipTask) (c : List ℕ) → NoError (chip_reading task c)
unfolding chip_reading
chip_plain p.Initiate c = fits_plain (eqb (length c) 1) _ refl
chip_plain p.Pcall c = fits_plain (eqb (length c) 1 && eqb (get_or c 0 0 % 16) 0) _ refl
chip_plain (p.Marker n) c = fits_plain (eqb (length c) 1 && eqb (get_or c 0 0 % 16) n) _ refl
chip_plain (p.Select id) c = fits_plain (eqb (length c) 1 && eqb (get_or c 0 0) id) _ refl
chip_plain p.Completion c = refl
chip_plain p.Reset c = refl
chip_plain (p.Read a) c = fits_plain (eqb (length c) 4) _ refl
chip_plain p.Uid c = fits_plain (eqb (length c) 8) _ refl
chip_plain (p.Write a) c = refl

-- ---- an error's content

-- e read of the content c
record Errs (command : Command) (c : List ℕ) (e : ℕ) : Type 0 where
  may : may_err command ≡ true
  code : error_code e ≡ true
  is : c ≡ 1 ∷ e ∷ []

error_bytes : (c : List ℕ) → is_error c ≡ true → (error_code (get_or c 1 0) ≡ true) × (c ≡ 1 ∷ get_or c 1 0 ∷ [])
unfolding is_error
error_bytes c h =
    let a = and_both (eqb (length c) 2) (eqb (get_or c 0 0) 1 && error_code (get_or c 1 0)) h in
    let b = and_both (eqb (get_or c 0 0) 1) (error_code (get_or c 1 0)) a.1 in
    (b.1, sym (window_all 2 c (eqb-true (length c) 2 a.0)) ∙ ap (λ (x : ℕ). x ∷ get_or c 1 0 ∷ []) (eqb-true (get_or c 0 0) 1 b.0))

label_errs : (to : Target) (option : Bool) (task : Task) (p : Params) (uid c : List ℕ) (e : ℕ)
    → code_of (label_reading to option task p uid c).meaning ≡ suc e
    → Errs (Label to option task p) c e
unfolding label_reading may_err
label_errs to option task p uid c e h = go (has_answer (row_of task).success && is_error c) refl h
  where
    go : (t : Bool) → (has_answer (row_of task).success && is_error c) ≡ t
        → code_of (if t then said (m.Error (get_or c 1 0)) else success_of to option (row_of task).success p.second uid c).meaning ≡ suc e
        → Errs (Label to option task p) c e
    go true q z =
        let i : get_or c 1 0 ≡ e = omega arith in
        let a = and_both (has_answer (row_of task).success) (is_error c) q in
        let b = error_bytes c a.1 in
        record { may = a.0; code = ap error_code (sym i) ∙ b.0; is = b.1 ∙ ap (λ (x : ℕ). 1 ∷ x ∷ []) i }
    go false q z = absurd (omega (arith, success_plain to option (row_of task).success p.second uid c))

shape_errs : (command : Command) (uid c : List ℕ) (e : ℕ) → code_of (shape_of command uid c).meaning ≡ suc e → Errs command c e
unfolding shape_of
shape_errs (Inventory to option family sixteen bits mask) uid c e h = absurd (omega (arith, found_plain bits mask c))
shape_errs (Label to option task p) uid c e h = label_errs to option task p uid c e h
shape_errs (Chip to option task) uid c e h = absurd (omega (arith, chip_plain task c))
shape_errs (Other kind code) uid c e h = absurd (omega arith)

-- ---- and its frame

-- f is the frame of the error e, and fits a command that was sent with n bytes of data
pub record ErrorFits (command : Command) (n : ℕ) (f : List ℕ) (e : ℕ) : Type 0 where
  pub fields : valid command n ≡ true
  pub may : may_err command ≡ true
  pub code : error_code e ≡ true
  pub frame : f ≡ framed (1 ∷ e ∷ [])

read_fits : (command : Command) (uid : List ℕ) (n : ℕ) (f : List ℕ) (e : ℕ) → Bytes f → reading_of command uid n f ≡ said (m.Error e) → ErrorFits command n f e
read_fits command uid n f e bs h =
    let y = told_right command uid n f bs (as_read _ _ h refl) in
    let w = shape_errs command uid (content f) e (ap (λ (r : Reading). code_of r.meaning) (sym y.shape ∙ h)) in
    record { fields = y.fields; may = w.may; code = w.code; frame = y.frame ∙ ap framed w.is }

fits_read : (command : Command) (uid : List ℕ) (n : ℕ) (f : List ℕ) (e : ℕ) → ErrorFits command n f e → reading_of command uid n f ≡ said (m.Error e)
unfolding may_err answer_frame
fits_read (Inventory to option family sixteen bits mask) uid n f e y = absurd (false≢true y.may)
fits_read (Label to option task p) uid n f e y =
    ap (reading_of (Label to option task p) uid n) y.frame ∙ error_read to option task p uid n y.fields e [] y.may y.code
fits_read (Chip to option task) uid n f e y = absurd (false≢true y.may)
fits_read (Other kind code) uid n f e y = absurd (false≢true y.may)

-- an error is read of a frame of bytes exactly when the frame is that error's, with a code that there is, and the command one that errors fit
pub error_exactly : (command : Command) (uid : List ℕ) (n : ℕ) (f : List ℕ) (e : ℕ) → Bytes f
    → (reading_of command uid n f ≡ said (m.Error e) → ErrorFits command n f e) × (ErrorFits command n f e → reading_of command uid n f ≡ said (m.Error e))
error_exactly command uid n f e bs = (read_fits command uid n f e bs, fits_read command uid n f e)
