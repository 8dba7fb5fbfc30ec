-- Document 01, "Reader's side": a success fits when some well-formed tag here gives it to that command, or, after a sixteen-slot
-- Inventory, in a later slot. What "gives" means, in the words of the tag side alone, and what a tag means by it. Assumes nothing.
use Rattle.std.specs.Prelude.{◌≡◌, ◌⊎◌, true, false, List, [], ℕ, zero, suc, ◌+◌, ◌*◌, ◌<◌, length, get_or}
use Rattle.std.proofs.Common.{inl, inr}
use Rattle.frame.specs.Number.{part, Bytes}
use Rattle.frame.specs.Judge.{fine}
use Rattle.request.specs.Label as labels
use Rattle.label_body.specs.Locks.{lock_on}
use Rattle.label_body.specs.Body as label
use Rattle.label_body.specs.Answer as labelAnswer
use Rattle.label.specs.declared.step.Answer as labelStep
use Rattle.label.specs.declared.step.Answer.TheVariants as a
use Rattle.request.specs.declared.label.Call.TheVariants as k
use Rattle.request.specs.Chip as chips
use Rattle.chip.specs.declared.step.Answer as chipStep
use Rattle.chip.specs.declared.step.Answer.TheVariants as x
use Rattle.chip_body.specs.Body as chip
use Rattle.chip_body.specs.Answer as chipAnswer
use Rattle.reader.specs.declared.command.Command.{Command}
use Rattle.reader.specs.declared.command.Command.TheVariants.{Inventory, Label, Chip, Other}
use Rattle.answer.specs.declared.reading.Meaning.{Meaning}
use Rattle.answer.specs.declared.reading.Meaning.TheVariants as m
use Rattle.answer.specs.declared.reading.Reading.{Reading}
use Rattle.answer.specs.Answer.{said, said_of}

-- ---- what an answer means; b is the body that says it

-- silence is no frame, and an empty frame is read as 8
unfoldable pub label_meaning : labelStep.Answer → List ℕ → Reading
label_meaning a.Silent b = said (m.Refused 8)
label_meaning (a.Error code) b = said (m.Error code)
label_meaning a.Done b = said m.Done
label_meaning a.Found b = said_of (m.Found (get_or b 8 0)) (part 0 8 b)
label_meaning (a.Block n true) b = said (m.LockAndBlock (lock_on n b) 2 (label.size_of b))
label_meaning (a.Block n false) b = said (m.Block 1 (label.size_of b))
label_meaning (a.LocksAndBlocks n more) b = said (m.LocksAndBlocks 1 (label.size_of b) (more + 1))
label_meaning (a.Blocks n more) b = said (m.Blocks 1 (label.size_of b) (more + 1))
label_meaning (a.Locks n more) b = said (m.Locks 1 (more + 1))
label_meaning a.Info b = said_of (m.Info (get_or b 8 0) (get_or b 9 0) (get_or b 11 0) (get_or b 12 0) (get_or b 13 0)) (part 0 8 b)

unfoldable pub chip_meaning : chipStep.Answer → List ℕ → Reading
chip_meaning x.Silent b = said (m.Refused 8)
chip_meaning (x.Id id) b = said (m.Id id)
chip_meaning (x.Block n) b = said (m.Word (chip.block_of n b))
chip_meaning x.Uid b = said_of m.Uid (part 68 8 b)

-- the bytes whose place a reading of the frame f tells ..
unfoldable pub bytes_told : Meaning → List ℕ → List ℕ
bytes_told (m.Refused n) f = []
bytes_told (m.Error code) f = []
bytes_told m.Done f = []
bytes_told (m.Found dsfid) f = []
bytes_told (m.Block place long) f = part place long f
bytes_told (m.LockAndBlock lock place long) f = part place long f
bytes_told (m.Info dsfid afi blocks size ic) f = []
bytes_told (m.Id id) f = []
bytes_told (m.Word word) f = []
bytes_told m.Uid f = []
bytes_told (m.Blocks place long count) f = part place (count * long) f
bytes_told (m.LocksAndBlocks place long count) f = part place (count * (1 + long)) f
bytes_told (m.Locks place count) f = part place count f

-- .. are those of the blocks, or their locks
unfoldable pub bytes_meant : labelStep.Answer → List ℕ → List ℕ
bytes_meant a.Silent b = []
bytes_meant (a.Error code) b = []
bytes_meant a.Done b = []
bytes_meant a.Found b = []
bytes_meant (a.Block n lock) b = part (label.block_at b n) (label.size_of b) b
bytes_meant a.Info b = []
bytes_meant (a.Blocks n more) b = labelAnswer.blocks_bytes n more false b
bytes_meant (a.LocksAndBlocks n more) b = labelAnswer.blocks_bytes n more true b
bytes_meant (a.Locks n more) b = labelAnswer.locks_bytes n more b

-- ---- who gives what

-- what a label with the body b says to the label frame f
abbrev pub label_says : List ℕ → List ℕ → labelStep.Answer
label_says f b = label.said_label (labels.decode f) (length (labels.data_of f)) b

-- a well-formed label that answers the label frame f with g
pub record LabelGives (f g : List ℕ) : Type 0 where
  pub body : List ℕ
  pub bytes : Bytes body
  pub well_formed : label.label_rules body ≡ fine
  pub speaks : labelAnswer.speaks (label_says f body) ≡ true
  pub says : labelAnswer.answer_frame (label_says f body) body ≡ g

-- the body after the label frame f and n ends of frame
unfoldable pub after : List ℕ → List ℕ → ℕ → List ℕ
after f body zero = label.next_label (labels.decode f) (labels.data_of f) body
after f body (suc n) = label.next_label (labels.bare k.EndOfFrame) [] (after f body n)

-- what a label with the body b says to an end of frame
abbrev pub slot_says : List ℕ → labelStep.Answer
slot_says b = label.said_label (labels.bare k.EndOfFrame) 0 b

-- a well-formed label that answers with g in a later slot: to the end of frame behind the frame f and n ends of frame
pub record SlotGives (f g : List ℕ) : Type 0 where
  pub body : List ℕ
  pub bytes : Bytes body
  pub well_formed : label.label_rules body ≡ fine
  pub n : ℕ
  pub speaks : labelAnswer.speaks (slot_says (after f body n)) ≡ true
  pub says : labelAnswer.answer_frame (slot_says (after f body n)) (after f body n) ≡ g

-- what a chip with the body b says to the chip frame f
abbrev pub chip_says : List ℕ → ℕ → List ℕ → chipStep.Answer
chip_says f draw b = chip.said_chip (chips.decode f) draw b

-- a well-formed chip that answers the chip frame f with g
pub record ChipGives (f g : List ℕ) : Type 0 where
  pub body : List ℕ
  pub bytes : Bytes body
  pub long : length body ≡ 80
  pub well_formed : chip.chip_rules body ≡ fine
  pub draw : ℕ
  pub small : draw < 256
  pub speaks : chipAnswer.speaks (chip_says f draw body) ≡ true
  pub says : chipAnswer.answer_frame (chip_says f draw body) body ≡ g

-- ---- of any command, f its frame

-- a well-formed tag that gives g to it; after a sixteen-slot Inventory also in a later slot
unfoldable pub Gives : Command → List ℕ → List ℕ → Type 0
Gives (Inventory to option family true bits mask) f g = LabelGives f g ⊎ SlotGives f g
Gives (Inventory to option family false bits mask) f g = LabelGives f g
Gives (Label to option task p) f g = LabelGives f g
Gives (Chip to option task) f g = ChipGives f g
Gives (Other kind code) f g = ⊥

-- what that tag means by it ..
unfoldable pub given_meaning : (command : Command) (f g : List ℕ) → Gives command f g → Reading
unfolding Gives
given_meaning (Inventory to option family true bits mask) f g (inl y) = label_meaning (label_says f y.body) y.body
given_meaning (Inventory to option family true bits mask) f g (inr y) = label_meaning (slot_says (after f y.body y.n)) (after f y.body y.n)
given_meaning (Inventory to option family false bits mask) f g y = label_meaning (label_says f y.body) y.body
given_meaning (Label to option task p) f g y = label_meaning (label_says f y.body) y.body
given_meaning (Chip to option task) f g y = chip_meaning (chip_says f y.draw y.body) y.body
given_meaning (Other kind code) f g y = absurd y

-- .. and the bytes of the blocks that it gives: only the answer to a label command holds blocks whose place is told
unfoldable pub given_bytes : (command : Command) (f g : List ℕ) → Gives command f g → List ℕ
unfolding Gives
given_bytes (Inventory to option family sixteen bits mask) f g y = []
given_bytes (Label to option task p) f g y = bytes_meant (label_says f y.body) y.body
given_bytes (Chip to option task) f g y = []
given_bytes (Other kind code) f g y = []
