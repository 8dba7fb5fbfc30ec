-- Document 01, "Marked examples": (a) to (l), one statement over one list. (b) is what a label answers, (c) to (j) what a chip's next body holds,
-- (k) and (l) what every such rack gives. Assumes nothing.
use Rattle.std.specs.Prelude.{◌≡◌, List, [], ◌∷◌, ◌++◌, ℕ, ◌*◌, ◌≤◌, length, get_or, replicate}
use Rattle.std.proofs.lemmas.List.Edits.{sets}
use Rattle.frame.specs.Judge.{fine}
use Rattle.frame.specs.Number.{num, bytes_of, part, Bytes}
use Rattle.frame.specs.CheckSum.{crc_of, framed}
use Rattle.label.specs.declared.step.Answer.TheVariants.{Found}
use Rattle.label_body.specs.Answer.{answer_frame}
use Rattle.chip_body.specs.Body.{place_of}
use Rattle.request.specs.declared.label.Family.{Family}
use Rattle.request.specs.declared.label.Family.TheVariants.{Any}
use Rattle.rack.specs.declared.tag.Kind.TheVariants.{Label, Chip}
use Rattle.rack.specs.File.{count_of, verdict_of}
use Rattle.rack.specs.Tag.{aired, next_body, answer_body}
use Rattle.inventory.specs.Endings.{count, ending}
use Rattle.inventory.specs.Walk.{uids, walk_of}

pub data Mark : Type 0 where
  A : Mark
  B : Mark
  C : Mark
  D : Mark
  E : Mark
  F : Mark
  G : Mark
  H : Mark
  I : Mark
  J : Mark
  K : Mark
  L : Mark

-- a ready label whose UID ends in 2A, in a slot of an Inventory with the mask A of 4 bits
pub record Running2A (s : ℕ) (b : List ℕ) : Type 0 where
  pub uid : get_or b 0 0 ≡ 0x2A
  pub ready : get_or b 14 0 ≡ 1
  pub slot : get_or b 15 0 ≡ s
  pub bits : get_or b 16 0 ≡ 4
  pub mask : num (part 17 8 b) ≡ 0xA

-- what it answers to the end of frame that opens the next slot
abbrev pub at_next_slot : List ℕ → List (List ℕ)
at_next_slot b = answer_body Label (aired 4 []) 0 b

-- a selected chip that holds a word in one block, and FFFFFFFF in all others
abbrev pub holding : ℕ → ℕ → ℕ → List ℕ
holding n word reload = sets (replicate 68 255 ++ (replicate 8 0 ++ (3 ∷ 0 ∷ reload ∷ 0 ∷ []))) (place_of n) (bytes_of 4 word)

-- its next body, where w is written to a block
abbrev pub put : ℕ → ℕ → List ℕ → List ℕ
put n w b = next_body Chip (aired 5 (framed (9 ∷ n ∷ bytes_of 4 w))) 0 b

-- the four bytes of that block, and reload (byte 78)
pub record Holds (n word x : ℕ) (b : List ℕ) : Type 0 where
  pub block : part (place_of n) 4 b ≡ bytes_of 4 word
  pub reload : get_or b 78 0 ≡ x

-- a walk that is not refused: a well-formed rack, room for its list, no two labels in state 1 or 3 with one UID
pub record Walkable (r list : List ℕ) : Type 0 where
  pub bytes : Bytes r
  pub well_formed : verdict_of r ≡ fine
  pub room : 8 * count_of r ≤ length list
  pub single : (v : ℕ) → count v (uids Any r) ≤ 1

unfoldable pub Says : Mark → Type 0
-- CRC of no bytes is 0000
Says A = crc_of [] ≡ 0x0000
-- UID ending 2A, mask A of 4 bits: slot 2 answers, slot 1 not
Says B = ((b : List ℕ) → Running2A 1 b → at_next_slot b ≡ answer_frame Found b ∷ []) × ((b : List ℕ) → Running2A 0 b → at_next_slot b ≡ [])
-- FFFF00FF, w F0F0F0F0: F0F000F0
Says C = Holds 0 0xF0F000F0 0 (put 0 0xF0F0F0F0 (holding 0 0xFFFF00FF 0))
-- with reload: F0F0F0F0
Says D = Holds 0 0xF0F0F0F0 1 (put 0 0xF0F0F0F0 (holding 0 0xFFFF00FF 1))
-- counter 5, w 5: 5
Says E = Holds 5 5 0 (put 5 5 (holding 5 5 0))
-- w 4: 4
Says F = Holds 5 4 0 (put 5 4 (holding 5 5 0))
-- w 6: 5
Says G = Holds 5 5 0 (put 5 6 (holding 5 5 0))
-- block 6 from 00200000 to 001FFFFF: reload on
Says H = Holds 6 0x001FFFFF 1 (put 6 0x001FFFFF (holding 6 0x00200000 0))
-- then to 001FFFFE from reload off: stays off
Says I = Holds 6 0x001FFFFE 0 (put 6 0x001FFFFE (holding 6 0x001FFFFF 0))
-- block 255 FFFF0000, w FF7FFFFF: FF7F0000, block 7 locked: what is then written to it changes nothing
Says J =
    Holds 255 0xFF7F0000 0 (put 255 0xFF7FFFFF (holding 255 0xFFFF0000 0))
    × (put 7 0 (put 255 0xFF7FFFFF (holding 255 0xFFFF0000 0)) ≡ put 255 0xFF7FFFFF (holding 255 0xFFFF0000 0))
-- two UIDs apart only in the top four bits: 16 rounds
Says K =
    (r : List ℕ) (family : Family) (list : List ℕ) → Walkable r list → (u v : ℕ) → uids family r ≡ u ∷ v ∷ [] → ending 60 u ≡ ending 60 v
    → (walk_of r family list).report.rounds ≡ 16
-- no label: 1 round
Says L = (r : List ℕ) (family : Family) (list : List ℕ) → Walkable r list → uids family r ≡ [] → (walk_of r family list).report.rounds ≡ 1

abbrev pub marks : List Mark
marks = A ∷ B ∷ C ∷ D ∷ E ∷ F ∷ G ∷ H ∷ I ∷ J ∷ K ∷ L ∷ []

abbrev pub All : List Mark → Type 0
All [] = Unit
All (x ∷ xs) = Says x × All xs
