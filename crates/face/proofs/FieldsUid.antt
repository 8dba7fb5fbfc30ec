-- The UID beside a command: one UID is eight bytes, and where the target is another nothing depends on them.
-- Assumes nothing.
use Rattle.std.specs.Prelude.{if◌then◌else◌}
use mathlib.Core.Path.{◌≡◌, refl, ap}
use mathlib.Core.Bool.{Bool, true, false}
use mathlib.Core.List.{List}
use Prim.Native.Nat.{ℕ, zero, suc}
use native.Mathlib.Omega.{arith}
use lib.Dec.{eqb, ltb}
use borrow.Author.Tests.{ltb-false, eqb-false}
use lib.ListN.{length}
use Rattle.frame.specs.CheckSum.{framed}
use Rattle.request.specs.declared.label.Family.{Family}
use Rattle.request.specs.declared.label.Params.{Params}
use Rattle.request.specs.declared.label.Target.{Target}
use Rattle.request.specs.declared.label.Target.TheVariants.{Everyone, Selected}
use Rattle.request.specs.Table.{row_of}
use Rattle.request.specs.declared.table.Task.{Task}
use Rattle.request.specs.declared.table.Success.{Success}
use Rattle.request.specs.declared.table.Success.TheVariants as s
use Rattle.std.specs.Prelude.{Option, Some, None}
use Rattle.request.specs.declared.table.Row.{Row}
use Rattle.reader.specs.declared.command.ChipTask.{ChipTask}
use Rattle.reader.specs.declared.command.Command.{Command}
use Rattle.reader.specs.declared.command.Command.TheVariants.{Inventory, Label, Chip, Other}
use Rattle.reader.specs.Command.{valid}
use Rattle.reader.specs.Request.{content, encode}
use Rattle.answer.specs.Answer.{info_of, success_of, label_reading, shape_of, reading_of}
use Rattle.face.specs.declared.fields.Fields.{Fields}
use Rattle.face.specs.Fields.{target_of, task_command, chip_command, label_command, command_of, uid_of, command_for}

-- eight bytes are the UID, and leave the command as its numbers name it
pub uid_eight : (bytes : List ℕ) → length bytes ≡ 8 → uid_of bytes ≡ bytes
unfolding uid_of
uid_eight bytes e = rw e refl

pub command_eight : (f : Fields) → command_for f 8 ≡ command_of f
unfolding command_for
command_eight f = go (eqb f.target 2)
  where
    go : (t : Bool) → (if t then command_of f else command_of f) ≡ command_of f
    go true = refl
    go false = refl

-- to one UID no request is without eight bytes of it, whatever the data: refusal 7
pub uid_lacking : (f : Fields) (n k : ℕ) → f.target ≡ 2 → eqb n 8 ≡ false → valid (command_for f n) k ≡ false
unfolding command_for valid
uid_lacking f n k e h = rw (e, h) refl

-- ---- no other command looks at them

-- a command whose request and answers go by no UID
record Blind (c : Command) : Type 0 where
  sent : (u v d : List ℕ) → content c u d ≡ content c v d
  heard : (u v a : List ℕ) → shape_of c u a ≡ shape_of c v a

chosen : (t : Bool) (c k : Command) → Blind c → Blind k → Blind (if t then c else k)
chosen true c k x y = x
chosen false c k x y = y

blind_inventory : (to : Target) (option : Bool) (family : Family) (sixteen : Bool) (bits mask : ℕ) → Blind (Inventory to option family sixteen bits mask)
unfolding content shape_of
blind_inventory to option family sixteen bits mask = record { sent = λ u v d. refl; heard = λ u v a. refl }

blind_chip : (to : Target) (option : Bool) (task : ChipTask) → Blind (Chip to option task)
unfolding content shape_of
blind_chip to option task = record { sent = λ u v d. refl; heard = λ u v a. refl }

blind_other : (kind code : ℕ) → Blind (Other kind code)
unfolding content shape_of
blind_other kind code = record { sent = λ u v d. refl; heard = λ u v a. refl }

-- the targets but for one UID
abbrev others : Bool → Target
others everyone = if everyone then Everyone else Selected

blind_success : (e option : Bool) (x : Success) (more : ℕ) (u v c : List ℕ) → success_of (others e) option x more u c ≡ success_of (others e) option x more v c
unfolding success_of info_of
blind_success true option s.Info more u v c = refl
blind_success false option s.Info more u v c = refl
blind_success e option s.Never more u v c = refl
blind_success e option s.Done more u v c = refl
blind_success e option s.Block more u v c = refl
blind_success e option s.Blocks more u v c = refl
blind_success e option s.Locks more u v c = refl

blind_label : (e option : Bool) (task : Task) (p : Params) → Blind (Label (others e) option task p)
unfolding content shape_of label_reading
blind_label true option task p =
    record { sent = λ u v d. refl; heard = λ u v a. rw (blind_success true option (row_of task).success p.second u v a) refl }
blind_label false option task p =
    record { sent = λ u v d. refl; heard = λ u v a. rw (blind_success false option (row_of task).success p.second u v a) refl }

blind_task : (x : Option Row) (e option : Bool) (p : Params) → Blind (task_command x (others e) option p)
unfolding task_command
blind_task (Some row) e option p = blind_label e option row.task p
blind_task None e option p = blind_other 1 0

blind_code : (code : ℕ) (to : Target) (option : Bool) (byte : ℕ) → Blind (chip_command code to option byte)
unfolding chip_command
blind_code code to option byte = search (chosen, blind_chip, blind_other) depth 12

target_others : (t : ℕ) → ltb 2 t ≡ false → eqb t 2 ≡ false → target_of t ≡ others (eqb t 0)
unfolding target_of
target_others zero e h = refl
target_others (suc zero) e h = refl
target_others (suc (suc t)) e h = absurd (eqb-false (suc (suc t)) 2 h (omega (arith, ltb-false 2 (suc (suc t)) e)))

blind_command : (f : Fields) → eqb f.target 2 ≡ false → Blind (command_of f)
unfolding command_of label_command
blind_command f h = go (ltb 2 f.target) refl
  where
    go : (t : Bool) → ltb 2 f.target ≡ t
        → Blind (if t then Other f.kind 0
        else if eqb f.kind 1 then label_command f (target_of f.target)
        else if eqb f.kind 2 then chip_command f.code (target_of f.target) f.option f.byte
        else Other f.kind 0)
    go true e = blind_other _ _
    go false e = rw (target_others f.target e h) (search (chosen, blind_inventory, blind_task, blind_code, blind_other))

-- where the target is not one UID, the request and what an answer means are the same whatever the bytes, and however many
pub uid_unsent : (f : Fields) (n : ℕ) (u v d : List ℕ) → eqb f.target 2 ≡ false → encode (command_for f n) u d ≡ encode (command_of f) v d
unfolding command_for encode
uid_unsent f n u v d h = rw h (ap framed ((blind_command f h).sent u v d))

pub uid_unheard : (f : Fields) (n k : ℕ) (u v a : List ℕ) → eqb f.target 2 ≡ false → reading_of (command_for f n) u k a ≡ reading_of (command_of f) v k a
unfolding command_for reading_of
uid_unheard f n k u v a h = rw (h, (blind_command f h).heard u v _) refl
