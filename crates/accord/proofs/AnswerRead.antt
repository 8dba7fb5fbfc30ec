-- Reading an answer gives its meaning: a frame's shape is that of its content, and the content of each answer, spelt out byte by byte,
-- passes its tests and carries its values.
-- Assumes nothing.
use mathlib.Core.Path.{◌≡◌, refl, sym, ap, ap₂, ◌∙◌}
use mathlib.Core.Bool.{Bool, true, false}
use mathlib.Core.List.{List, [], ◌∷◌, ◌++◌}
use Prim.Native.Nat.{ℕ, suc, ◌+◌, ◌-◌, ◌*◌, ◌%◌, ◌≤◌, ◌<◌}
use native.Mathlib.Omega.{arith}
use lib.Dec.{eqb}
use lib.ListN.{length, get_or, drop, length-drop}
use lib.Seq.{length-take-le, take_at}
use borrow.Author.Tests.{le-leb, le-ltb, eq-eqb}
use Rattle.frame.specs.Choose.{all_of}
use Rattle.frame.specs.Number.{num, bytes_of, part}
use Rattle.frame.specs.CheckSum.{crc_of, framed_with, framed}
use Rattle.frame.specs.Ending.{ends_in}
use Rattle.frame.proofs.Bools.{and_false}
use Rattle.frame.proofs.Gather.{gather_length}
use Rattle.frame.proofs.CheckSumFrames.{length_framed, content_framed, right_all}
use Rattle.frame.proofs.Lists.{window, window_take, window_all}
use Rattle.request.specs.Table.{row_of, has_answer}
use Rattle.request.specs.declared.table.Task.{Task}
use Rattle.request.specs.declared.table.Success.TheVariants as s
use Rattle.request.specs.declared.label.Params.{Params}
use Rattle.request.specs.declared.label.Target.{Target}
use Rattle.request.specs.declared.label.Family.{Family}
use Rattle.label.specs.Step.{several}
use Rattle.label.specs.declared.step.Answer.{Answer}
use Rattle.label.specs.declared.step.Answer.TheVariants as a
use Rattle.label_body.specs.Locks.{lock_on}
use Rattle.label_body.specs.Body.{size_of, block_at}
use Rattle.label_body.specs.Facts.{LabelFine, AnswerFits}
use Rattle.label_body.specs.Answer as labelAnswer
use Rattle.label_body.proofs.LocksLaws.{lock_one}
use Rattle.label_body.proofs.BodyRoom.{sized_long, block_fits}
use Rattle.label_body.proofs.AnswerLaid.{lock_count, bytes_length}
use Rattle.chip.specs.declared.step.Answer.TheVariants as ca
use Rattle.chip_body.specs.Body.{place_of}
use Rattle.chip_body.specs.Answer as chipAnswer
use Rattle.chip_body.proofs.BodyShapes.{place_fits}
use Rattle.reader.specs.declared.command.ChipTask.TheVariants as p
use Rattle.reader.specs.declared.command.Command.{Command}
use Rattle.reader.specs.declared.command.Command.TheVariants.{Inventory, Label, Chip}
use Rattle.reader.specs.Command.{valid}
use Rattle.answer.specs.declared.reading.Meaning.TheVariants as m
use Rattle.answer.specs.Answer.{said, said_of, error_code, is_error, done_of, block_of, blocks_of, locks_of, owned, info_of, success_of, label_reading, found_of}
use Rattle.answer.specs.Answer.{chip_reading, shape_of, reading_of}
use Rattle.answer.proofs.AnswerPieces.{lock_at, lock_each, piece_is, locks_told}
use Rattle.accord.specs.Tags.{label_meaning, bytes_told, bytes_meant}

-- a frame means what its content means
read_framed : (c : Command) (uid : List ℕ) (n : ℕ) (s : List ℕ) → valid c n ≡ true → 1 ≤ length s → reading_of c uid n (framed s) ≡ shape_of c uid s
unfolding reading_of
read_framed c uid n s v h =
    let l : 3 ≤ length (framed s) = omega (arith, length_framed 0xFFFF true s) in
    rw (v, le-ltb (length (framed s)) 3 l, right_all s) (ap (shape_of c uid) (content_framed 0xFFFF true s))

-- silence is no frame
pub none_read : (c : Command) (uid : List ℕ) (n : ℕ) → valid c n ≡ true → reading_of c uid n [] ≡ said (m.Refused 8)
unfolding reading_of
none_read c uid n v = rw v

-- ---- labels

-- a frame that starts with 00 is no error
no_error : (s : List ℕ) → is_error (0 ∷ s) ≡ false
unfolding is_error
no_error s = and_false (eqb (length (0 ∷ s)) 2)

-- the bytes of a frame behind 00
all_behind : (s : List ℕ) (n : ℕ) → length s ≡ n → part 1 n (framed (0 ∷ s)) ≡ s
unfolding framed_with
all_behind s n e = take_at s (bytes_of 2 (crc_of (0 ∷ s))) n e

-- 00 and a block; with Option, its lock between
plain_block : (s : List ℕ) → 1 ≤ length s → length s ≤ 32 → block_of false (0 ∷ s) ≡ said (m.Block 1 (length s))
unfolding block_of
plain_block s h l =
    let q : suc (length s) - 1 ≡ length s = omega arith in
    rw (le-leb 2 (suc (length s)) (omega arith), le-leb (suc (length s)) 33 (omega arith), q)

lock_block : (x : ℕ) (s : List ℕ) → x ≤ 1 → 1 ≤ length s → length s ≤ 32 → block_of true (0 ∷ x ∷ s) ≡ said (m.LockAndBlock x 2 (length s))
unfolding block_of
lock_block x s z h l =
    let q : suc (suc (length s)) - 2 ≡ length s = omega arith in
    rw (le-leb 3 (suc (suc (length s))) (omega arith), le-leb (suc (suc (length s))) 34 (omega arith), le-leb x 1 z, q)

-- block k's bytes
abbrev pub held : ℕ → List ℕ → List ℕ
held k b = part (block_at b k) (size_of b) b

module _ (k : ℕ) (b : List ℕ) (ok : LabelFine b) (h : k ≤ get_or b 11 0) where
  held_long : length (held k b) ≡ size_of b
  held_long = length-take-le (size_of b) (drop (block_at b k) b) (rw (length-drop (block_at b k) b) (omega (arith, block_fits b k ok.sized h)))

  block_bytes : (option : Bool) → block_of option (0 ∷ labelAnswer.block_bytes k option b) ≡ label_meaning (a.Block k option) b
  unfolding labelAnswer.block_bytes label_meaning
  block_bytes true =
      lock_block (lock_on k b) (held k b) (lock_one k b ok.locked h) (omega (arith, held_long)) (omega (arith, ok.size, held_long))
      ∙ ap (λ (x : ℕ). said (m.LockAndBlock (lock_on k b) 2 x)) held_long
  block_bytes false =
      plain_block (held k b) (omega (arith, held_long)) (omega (arith, ok.size, held_long)) ∙ ap (λ (x : ℕ). said (m.Block 1 x)) held_long

  -- at the place that is told stand the block's bytes
  block_there : (option : Bool) → bytes_told (label_meaning (a.Block k option) b).meaning (labelAnswer.answer_frame (a.Block k option) b) ≡ held k b
  unfolding labelAnswer.answer_frame labelAnswer.block_bytes framed_with label_meaning bytes_told
  block_there true = let s = held k b in take_at s (bytes_of 2 (crc_of (0 ∷ lock_on k b ∷ s))) (size_of b) held_long
  block_there false = all_behind (held k b) (size_of b) held_long

-- blocks one behind the other; with Option, the lock of each before it
module _ (k more : ℕ) (b : List ℕ) (ok : LabelFine b) (h : k + more ≤ get_or b 11 0) where
  each_long : (option : Bool) (i : ℕ) → i < more + 1 → length (labelAnswer.block_bytes (k + i) option b) ≡ lock_count option + size_of b
  each_long option i l = bytes_length b (k + i) ok.sized (omega arith) option

  blocks_long : (option : Bool) → length (labelAnswer.blocks_bytes k more option b) ≡ (more + 1) * (lock_count option + size_of b)
  unfolding labelAnswer.blocks_bytes
  blocks_long option = gather_length (lock_count option + size_of b) (more + 1) _ (each_long option)

  blocks_locks : all_of (more + 1) (lock_at (1 + size_of b) (0 ∷ labelAnswer.blocks_bytes k more true b)) ≡ true
  unfolding labelAnswer.blocks_bytes labelAnswer.block_bytes
  blocks_locks =
      locks_told (1 + size_of b) (more + 1) (λ i. labelAnswer.block_bytes (k + i) true b) (omega arith) (each_long true)
      (λ i l. lock_one (k + i) b ok.locked (omega arith))

  blocks_bytes : (option : Bool) → blocks_of option (more + 1) (0 ∷ labelAnswer.blocks_bytes k more option b) ≡ label_meaning (several option k more) b
  unfolding blocks_of label_meaning
  blocks_bytes true =
      let size = size_of b in
      let q : 1 + size - 1 ≡ size = omega arith in
      rw (
        piece_is (more + 1) (1 + size) _ (omega arith) (blocks_long true),
        le-leb 2 (1 + size) (omega arith),
        le-leb (1 + size) 33 (omega (arith, ok.size)),
        blocks_locks,
        q,
      )
  blocks_bytes false =
      let size = size_of b in
      let q : 0 + size ≡ size = omega arith in
      rw (
        piece_is (more + 1) size _ (omega arith) (rw q at (blocks_long false)),
        le-leb 1 size (omega arith),
        le-leb size 32 (omega (arith, ok.size)),
      )

  blocks_there : (option : Bool)
      → bytes_told (label_meaning (several option k more) b).meaning (labelAnswer.answer_frame (several option k more) b)
      ≡ labelAnswer.blocks_bytes k more option b
  unfolding labelAnswer.answer_frame label_meaning bytes_told
  blocks_there true = all_behind _ _ (blocks_long true)
  blocks_there false = all_behind _ _ (blocks_long false ∙ ap (λ (n : ℕ). (more + 1) * n) (let q : 0 + size_of b ≡ size_of b = omega arith in q))

  -- their locks alone
  locks_long : length (labelAnswer.locks_bytes k more b) ≡ (more + 1) * 1
  unfolding labelAnswer.locks_bytes
  locks_long = gather_length 1 (more + 1) _ (λ i l. refl)

  locks_locks : all_of (more + 1) (lock_at 1 (0 ∷ labelAnswer.locks_bytes k more b)) ≡ true
  unfolding labelAnswer.locks_bytes
  locks_locks = locks_told 1 (more + 1) (λ i. lock_on (k + i) b ∷ []) (omega arith) (λ i l. refl) (λ i l. lock_one (k + i) b ok.locked (omega arith))

  locks_bytes : locks_of (more + 1) (0 ∷ labelAnswer.locks_bytes k more b) ≡ label_meaning (a.Locks k more) b
  unfolding locks_of label_meaning
  locks_bytes = rw (piece_is (more + 1) 1 _ (omega arith) locks_long, lock_each (more + 1) (0 ∷ labelAnswer.locks_bytes k more b), locks_locks)

  locks_there : bytes_told (label_meaning (a.Locks k more) b).meaning (labelAnswer.answer_frame (a.Locks k more) b) ≡ labelAnswer.locks_bytes k more b
  unfolding labelAnswer.answer_frame label_meaning bytes_told
  locks_there = all_behind _ (more + 1) (locks_long ∙ omega arith)

several_frame : (option : Bool) (n more : ℕ) (b : List ℕ)
    → labelAnswer.answer_frame (several option n more) b ≡ framed (0 ∷ labelAnswer.blocks_bytes n more option b)
unfolding labelAnswer.answer_frame
several_frame true n more b = refl
several_frame false n more b = refl

-- the bytes whose place is told are the blocks' and their locks'
pub bytes_there : (x : Answer) (b : List ℕ) → LabelFine b → AnswerFits x b
    → bytes_told (label_meaning x b).meaning (labelAnswer.answer_frame x b) ≡ bytes_meant x b
unfolding label_meaning bytes_told bytes_meant AnswerFits
bytes_there a.Silent b ok h = refl
bytes_there (a.Error code) b ok h = refl
bytes_there a.Done b ok h = refl
bytes_there a.Found b ok h = refl
bytes_there (a.Block k option) b ok h = block_there k b ok h option
bytes_there a.Info b ok h = refl
bytes_there (a.Blocks k more) b ok h = blocks_there k more b ok h false
bytes_there (a.LocksAndBlocks k more) b ok h = blocks_there k more b ok h true
bytes_there (a.Locks k more) b ok h = locks_there k more b ok h

-- what a label says of itself
info_bytes : (x : List ℕ) (to : Target) (uid b : List ℕ) → 14 ≤ length b → get_or b 12 0 ≤ 31 → owned to uid (part 0 8 b) ≡ true
    → x ≡ 0 ∷ 0x0F ∷ (part 0 10 b ++ part 11 3 b) → info_of to uid x ≡ label_meaning a.Info b
unfolding info_of label_meaning
info_bytes x to uid b h z o e =
    let w : x ≡ 0 ∷ 0x0F ∷ (window 10 0 b ++ window 3 11 b) =
    e ∙ ap₂ (λ (u v : List ℕ). 0 ∷ 0x0F ∷ (u ++ v)) (sym (window_take 10 0 b (omega arith))) (sym (window_take 3 11 b (omega arith)))
    in
    let u : window 8 0 b ≡ part 0 8 b = window_take 8 0 b (omega arith) in
    rw (w, u, le-leb (get_or b 12 0) 31 z, o)

-- to a label command, by what its task's success says
module _ (to : Target) (option : Bool) (task : Task) (p : Params) (uid : List ℕ) (n : ℕ) (v : valid (Label to option task p) n ≡ true) where
  pub error_read : (code : ℕ) (b : List ℕ) → has_answer (row_of task).success ≡ true → error_code code ≡ true
      → reading_of (Label to option task p) uid n (labelAnswer.answer_frame (a.Error code) b) ≡ said (m.Error code)
  unfolding shape_of label_reading is_error labelAnswer.answer_frame
  error_read code b h z = read_framed (Label to option task p) uid n (1 ∷ code ∷ []) v (omega arith) ∙ rw (h, z)

  -- a success means what its content means
  success_read : (s : List ℕ)
      → reading_of (Label to option task p) uid n (framed (0 ∷ s)) ≡ success_of to option (row_of task).success p.second uid (0 ∷ s)
  unfolding shape_of label_reading
  success_read s = read_framed (Label to option task p) uid n (0 ∷ s) v (omega arith) ∙ rw (no_error s, and_false (has_answer (row_of task).success))

  pub done_read : (b : List ℕ) → (row_of task).success ≡ s.Done → reading_of (Label to option task p) uid n (labelAnswer.answer_frame a.Done b) ≡ said m.Done
  unfolding labelAnswer.answer_frame success_of done_of
  done_read b e = success_read [] ∙ rw e

  pub block_read : (k : ℕ) (b : List ℕ) → LabelFine b → k ≤ get_or b 11 0 → (row_of task).success ≡ s.Block
      → reading_of (Label to option task p) uid n (labelAnswer.answer_frame (a.Block k option) b) ≡ label_meaning (a.Block k option) b
  unfolding labelAnswer.answer_frame success_of
  block_read k b ok h e = success_read (labelAnswer.block_bytes k option b) ∙ rw e (block_bytes k b ok h option)

  module _ (k : ℕ) (b : List ℕ) (ok : LabelFine b) (h : k + p.second ≤ get_or b 11 0) where
    pub blocks_read : (row_of task).success ≡ s.Blocks
        → reading_of (Label to option task p) uid n (labelAnswer.answer_frame (several option k p.second) b) ≡ label_meaning (several option k p.second) b
    unfolding labelAnswer.answer_frame success_of
    blocks_read e =
        ap (reading_of (Label to option task p) uid n) (several_frame option k p.second b)
        ∙ success_read (labelAnswer.blocks_bytes k p.second option b)
        ∙ rw e (blocks_bytes k p.second b ok h option)

    pub locks_read : (row_of task).success ≡ s.Locks
        → reading_of (Label to option task p) uid n (labelAnswer.answer_frame (a.Locks k p.second) b) ≡ label_meaning (a.Locks k p.second) b
    unfolding labelAnswer.answer_frame success_of
    locks_read e = success_read (labelAnswer.locks_bytes k p.second b) ∙ rw e (locks_bytes k p.second b ok h)

  pub info_read : (b : List ℕ) → LabelFine b → owned to uid (part 0 8 b) ≡ true → (row_of task).success ≡ s.Info
      → reading_of (Label to option task p) uid n (labelAnswer.answer_frame a.Info b) ≡ label_meaning a.Info b
  unfolding labelAnswer.answer_frame success_of
  info_read b ok o e =
      success_read (0x0F ∷ (part 0 10 b ++ part 11 3 b))
      ∙ rw e (info_bytes _ to uid b (omega (arith, sized_long b ok.sized)) ok.size o refl)

-- to an Inventory
found_bytes : (x u : List ℕ) (dsfid mask bits : ℕ) → length u ≡ 8 → ends_in u mask bits ≡ true → x ≡ 0 ∷ dsfid ∷ u
    → found_of bits mask x ≡ said_of (m.Found dsfid) u
unfolding found_of
found_bytes x u dsfid mask bits h o e =
    let i : window 8 0 u ≡ u = window_all 8 u h in
    let w : x ≡ 0 ∷ dsfid ∷ window 8 0 u = e ∙ ap (λ (l : List ℕ). 0 ∷ dsfid ∷ l) (sym i) in
    rw (w, i, o)

pub found_read : (to : Target) (option : Bool) (family : Family) (sixteen : Bool) (bits mask : ℕ) (uid : List ℕ) (n : ℕ) (b : List ℕ)
    → valid (Inventory to option family sixteen bits mask) n ≡ true → length (part 0 8 b) ≡ 8 → ends_in (part 0 8 b) mask bits ≡ true
    → reading_of (Inventory to option family sixteen bits mask) uid n (labelAnswer.answer_frame a.Found b) ≡ said_of (m.Found (get_or b 8 0)) (part 0 8 b)
unfolding labelAnswer.answer_frame shape_of
found_read to option family sixteen bits mask uid n b v h o =
    read_framed (Inventory to option family sixteen bits mask) uid n (0 ∷ get_or b 8 0 ∷ part 0 8 b) v (omega arith)
    ∙ found_bytes _ (part 0 8 b) (get_or b 8 0) mask bits h o refl

-- ---- chips

module _ (to : Target) (option : Bool) (uid : List ℕ) (n : ℕ) (b : List ℕ) where
  pub initiate_read : (id : ℕ) → valid (Chip to option p.Initiate) n ≡ true
      → reading_of (Chip to option p.Initiate) uid n (chipAnswer.answer_frame (ca.Id id) b) ≡ said (m.Id id)
  unfolding chipAnswer.answer_frame shape_of chip_reading
  initiate_read id v = read_framed (Chip to option p.Initiate) uid n (id ∷ []) v (omega arith)

  pub pcall_read : (id : ℕ) → valid (Chip to option p.Pcall) n ≡ true → id % 16 ≡ 0
      → reading_of (Chip to option p.Pcall) uid n (chipAnswer.answer_frame (ca.Id id) b) ≡ said (m.Id id)
  unfolding chipAnswer.answer_frame shape_of chip_reading
  pcall_read id v h = read_framed (Chip to option p.Pcall) uid n (id ∷ []) v (omega arith) ∙ rw (eq-eqb (id % 16) 0 h)

  pub marker_read : (s id : ℕ) → valid (Chip to option (p.Marker s)) n ≡ true → id % 16 ≡ s
      → reading_of (Chip to option (p.Marker s)) uid n (chipAnswer.answer_frame (ca.Id id) b) ≡ said (m.Id id)
  unfolding chipAnswer.answer_frame shape_of chip_reading
  marker_read s id v h = read_framed (Chip to option (p.Marker s)) uid n (id ∷ []) v (omega arith) ∙ rw (eq-eqb (id % 16) s h)

  pub select_read : (id : ℕ) → valid (Chip to option (p.Select id)) n ≡ true
      → reading_of (Chip to option (p.Select id)) uid n (chipAnswer.answer_frame (ca.Id id) b) ≡ said (m.Id id)
  unfolding chipAnswer.answer_frame shape_of chip_reading
  select_read id v = read_framed (Chip to option (p.Select id)) uid n (id ∷ []) v (omega arith) ∙ rw (eq-eqb id id refl)

  pub word_read : (x : ℕ) → valid (Chip to option (p.Read x)) n ≡ true → length b ≡ 80
      → reading_of (Chip to option (p.Read x)) uid n (chipAnswer.answer_frame (ca.Block x) b) ≡ said (m.Word (num (part (place_of x) 4 b)))
  unfolding chipAnswer.answer_frame shape_of chip_reading
  word_read x v h =
      let s = part (place_of x) 4 b in
      let l : length s ≡ 4 = length-take-le 4 (drop (place_of x) b) (rw (length-drop (place_of x) b) (omega (arith, place_fits x))) in
      read_framed (Chip to option (p.Read x)) uid n s v (omega arith) ∙ rw (eq-eqb (length s) 4 l)

  pub uid_read : valid (Chip to option p.Uid) n ≡ true → length b ≡ 80
      → reading_of (Chip to option p.Uid) uid n (chipAnswer.answer_frame ca.Uid b) ≡ said_of m.Uid (part 68 8 b)
  unfolding chipAnswer.answer_frame shape_of chip_reading
  uid_read v h =
      let s = part 68 8 b in
      let l : length s ≡ 8 = length-take-le 8 (drop 68 b) (rw (length-drop 68 b) (omega arith)) in
      read_framed (Chip to option p.Uid) uid n s v (omega arith) ∙ rw (eq-eqb (length s) 8 l)
