-- The marked examples (a) to (j): chips and the check sum compute, a label in its slot goes by the four bits above the mask. Assumes nothing.
use Rattle.std.specs.Prelude.{if◌then◌else◌}
use mathlib.Core.Path.{◌≡◌, refl, ap, ◌∙◌}
use mathlib.Core.Bool.{Bool, true, false}
use mathlib.Core.List.{List, [], ◌∷◌}
use Prim.Native.Nat.{ℕ, ◌+◌, ◌*◌, ◌/◌, ◌%◌, ◌<◌}
use native.Mathlib.Omega.{arith}
use borrow.Author.Tests.{lt-ltb}
use lib.Dec.{eqb}
use lib.ListN.{get_or, take}
use Rattle.frame.specs.Number.{num, part}
use Rattle.frame.specs.Ending.{ends_in, ends_in_slot}
use Rattle.frame.specs.CheckSum.{crc_bit, crc_bits, crc_byte, crc_run, crc_with, framed_with, right_with}
use Rattle.request.specs.Label.{heard}
use Rattle.request.specs.Chip as chips
use Rattle.label.specs.Step.{with_slot, told, silent, act, called, end_of_frame, turn}
use Rattle.label_body.specs.Body.{load_of, stepped, said_label}
use Rattle.label.specs.declared.step.Label.{Label}
use Rattle.label.specs.declared.step.Stepped.{Stepped}
use Rattle.label.specs.declared.step.Answer.TheVariants.{Silent, Found}
use Rattle.chip.specs.Write.{written, count_down, lock_down, reloads, locked}
use Rattle.chip.specs.Step as step
use Rattle.chip_body.specs.Body as chip
use Rattle.rack.specs.Tag.{next_body, said_by, speaks, frame_of, answer_body}
use Rattle.demands.specs.Marked.{Says, Running2A, A, B, C, D, E, F, G, H, I, J}

-- ---- (a)

pub sum_holds : Says A
unfolding Says crc_with crc_run
sum_holds = refl

-- ---- (b)

-- the slot of a UID that ends in 2A behind the mask A is 2
ends_2_a : (b : List ℕ) → get_or b 0 0 ≡ 0x2A → (s : ℕ) → ends_in_slot (part 0 8 b) 0xA 4 s ≡ eqb 2 s
unfolding ends_in_slot ends_in
ends_2_a [] e s = absurd (omega arith)
ends_2_a (x ∷ b) e s =
    let n = num (part 0 8 (x ∷ b)) in
    let k : n ≡ x + num (take 7 b) * 256 = refl in
    let low : n % 16 ≡ 0xA = omega arith in
    let sixteenth : n / 16 ≡ 2 + num (take 7 b) * 16 = omega arith in
    let high : n / 16 % 16 ≡ 2 = ap (λ (i : ℕ). i % 16) sixteenth ∙ two (num (take 7 b)) in
    rw (low, high)
  where
    two : (m : ℕ) → (2 + m * 16) % 16 ≡ 2
    two m = omega arith

-- such a label when the next slot opens
slot_stepped : (s n : ℕ) (b : List ℕ) → Running2A s b → s < 15
    → stepped (heard 4 []) n b ≡ (let l = with_slot (s + 1) 4 0xA (load_of b) in if eqb 2 (s + 1) then told Found l else silent l)
unfolding heard stepped act called end_of_frame turn load_of
slot_stepped s n b r h = rw (r.ready, r.slot, lt-ltb s 15 h, r.bits, r.mask, ends_2_a b r.uid (s + 1))

slot_said : (s n : ℕ) (b : List ℕ) → Running2A s b → s < 15 → said_label (heard 4 []) n b ≡ (if eqb 2 (s + 1) then Found else Silent)
unfolding said_label
slot_said s n b r h = ap (λ (x : Stepped). x.answer) (slot_stepped s n b r h) ∙ chosen (eqb 2 (s + 1)) (with_slot (s + 1) 4 0xA (load_of b))
  where
    chosen : (x : Bool) (l : Label) → (if x then told Found l else silent l).answer ≡ (if x then Found else Silent)
    chosen true l = refl
    chosen false l = refl

pub slots_hold : Says B
unfolding Says answer_body said_by speaks frame_of
slots_hold = (λ b r. rw (slot_said 1 _ b r (omega arith)), λ b r. rw (slot_said 0 _ b r (omega arith)))

-- ---- (c) to (j)

pub chips_hold : Says C × (Says D × (Says E × (Says F × (Says G × (Says H × (Says I × Says J))))))
unfolding Says next_body chips.heard chips.decode chips.long chips.listed crc_with crc_run crc_byte crc_bits crc_bit framed_with right_with
    chip.next_chip chip.stepped chip.named chip.worked chip.load_of chip.store_of chip.place_of step.act step.write written count_down lock_down reloads locked
chips_hold = (
  record { block = refl; reload = refl },
  (
    record { block = refl; reload = refl },
    (
      record { block = refl; reload = refl },
      (
        record { block = refl; reload = refl },
        (
          record { block = refl; reload = refl },
          (
            record { block = refl; reload = refl },
            (
              record { block = refl; reload = refl },
              (record { block = refl; reload = refl }, refl),
            ),
          ),
        ),
      ),
    ),
  ),
)
