-- What an answer says stands in the body before the step as after it: a step that answers writes no block, and its stores reach no block and no UID.
-- Its frame is a Chip_ID, a block or the UID with the check sum, so its length is the content's and two.
-- Assumes nothing.
use mathlib.Core.Path.{◌≡◌, refl, sym, ap, ◌∙◌}
use mathlib.Core.Bool.{true}
use mathlib.Core.List.{List, [], ◌∷◌}
use Prim.Native.Nat.{ℕ, ◌+◌, ◌≤◌}
use native.Mathlib.Omega.{arith}
use lib.ListN.{length, drop, length-take}
use lib.Seq.{sets}
use Rattle.frame.specs.Number.{num, part}
use Rattle.frame.specs.CheckSum.{framed}
use Rattle.frame.proofs.CheckSumFrames.{length_framed}
use Rattle.frame.proofs.Stores.{length_part}
use Rattle.request.specs.declared.chip.Order.{Order}
use Rattle.chip.specs.declared.step.Chip.{Chip}
use Rattle.chip.specs.declared.step.Answer.{Answer}
use Rattle.chip.specs.declared.step.Answer.TheVariants as a
use Rattle.chip.specs.declared.step.Stepped.{Stepped}
use Rattle.chip.proofs.StepWays.{Steps, quiet, wrote, steps}
use Rattle.chip_body.specs.Body.{load_of, store_of, place_of, named, worked, stepped, next_chip, said_chip}
use Rattle.chip_body.specs.Answer.{answer_frame}
use Rattle.chip_body.proofs.BodyShapes.{place_fits}
use Rattle.chip_body.proofs.BodyStored.{store_part}

-- a chip stored changes no answer
pub frame_store : (x : Answer) (b : List ℕ) (c : Chip) → 76 ≤ length b → answer_frame x (store_of b c) ≡ answer_frame x b
unfolding answer_frame
frame_store a.Silent b c l = refl
frame_store (a.Id id) b c l = refl
frame_store (a.Block n) b c l = ap framed (store_part b c (place_of n) 4 (omega (arith, place_fits n)))
frame_store a.Uid b c l = ap framed (store_part b c 68 8 (omega arith))

pub same_frame : (order : Order) (d : ℕ) (b : List ℕ) → length b ≡ 80
    → answer_frame (said_chip order d b) (next_chip order d b) ≡ answer_frame (said_chip order d b) b
unfolding said_chip next_chip stepped worked answer_frame
same_frame order d b l = go (stepped order d b) (steps order d (named order b) (num (part 64 4 b)) (load_of b))
  where
    go : (x : Stepped) → Steps order d (named order b) (num (part 64 4 b)) (load_of b) x
        → answer_frame x.answer (worked x.work (store_of b x.next)) ≡ answer_frame x.answer b
    go x (quiet next answer h) = frame_store answer b next (omega arith)
    go x (wrote n v next q z k h) = refl

-- a part is no longer than it is to be
part_short : (at k : ℕ) (b : List ℕ) → length (part at k b) ≤ k
part_short at k b = rw (length-take k (drop at b)) (omega arith)

-- the longest answer is a UID with its check sum
pub frame_short : (x : Answer) (b : List ℕ) → length (answer_frame x b) ≤ 10
unfolding answer_frame
frame_short a.Silent b = omega arith
frame_short (a.Id id) b = omega (arith, length_framed 0xFFFF true (id ∷ []))
frame_short (a.Block n) b = omega (arith, length_framed 0xFFFF true (part (place_of n) 4 b), part_short (place_of n) 4 b)
frame_short a.Uid b = omega (arith, length_framed 0xFFFF true (part 68 8 b), part_short 68 8 b)

-- ---- what a writer put is the frame of the answer

pub answered : (xs ys old : List ℕ) {fin : List ℕ} {k r : ℕ} → (r ≡ k) × (fin ≡ sets old 0 xs) → xs ≡ ys → length xs ≡ k
    → (r ≡ length ys) × (fin ≡ sets old 0 ys)
answered xs ys old e f l = (e.0 ∙ sym l ∙ ap length f, e.1 ∙ ap (sets old 0) f)

pub framed_one : (x : ℕ) → length (framed (x ∷ [])) ≡ 3
framed_one x = length_framed 0xFFFF true (x ∷ [])

pub framed_part : (at k : ℕ) (b : List ℕ) → at + k ≤ length b → length (framed (part at k b)) ≡ k + 2
framed_part at k b h = length_framed 0xFFFF true (part at k b) ∙ ap (λ (n : ℕ). n + 2) (length_part at k b h)

-- ---- the room that an answer's frame takes
module _ (x : Answer) (b : List ℕ) (n : ℕ) (room : length (answer_frame x b) ≤ n) where
  pub id_room : (id : ℕ) → x ≡ a.Id id → 3 ≤ n
  unfolding answer_frame
  id_room id q =
      let h : length (framed (id ∷ [])) ≤ n = rw q at room in
      omega (arith, framed_one id)

  pub block_room : (m : ℕ) → x ≡ a.Block m → 80 ≤ length b → 6 ≤ n
  unfolding answer_frame
  block_room m q l =
      let h : length (framed (part (place_of m) 4 b)) ≤ n = rw q at room in
      omega (arith, framed_part (place_of m) 4 b (omega (arith, place_fits m)))

  pub uid_room : x ≡ a.Uid → 80 ≤ length b → 10 ≤ n
  unfolding answer_frame
  uid_room q l =
      let h : length (framed (part 68 8 b)) ≤ n = rw q at room in
      omega (arith, framed_part 68 8 b (omega arith))
