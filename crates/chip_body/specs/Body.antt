-- Document 01, "Rack file": the chip body of 80 bytes, its rules and the step on it. Assumes nothing.
use Rattle.std.specs.Prelude.{not, ◌&&◌, ◌||◌, List, [], ◌∷◌, ℕ, ◌*◌, eqb, ltb, get_or, Option, None, Some, if◌then◌else◌}
use Rattle.std.proofs.lemmas.List.Edits.{sets}
use Rattle.frame.specs.Number.{num, bytes_of, part}
use Rattle.frame.specs.declared.verdict.Rule.TheVariants.{Body}
use Rattle.frame.specs.Judge.{Verdict, fine, bad}
use Rattle.request.specs.declared.chip.Order.{Order}
use Rattle.request.specs.declared.chip.Order.TheVariants as o
use Rattle.chip.specs.declared.step.Chip.{Chip}
use Rattle.chip.specs.declared.step.Answer.{Answer}
use Rattle.chip.specs.declared.step.Put.{Put}
use Rattle.chip.specs.declared.step.Stepped.{Stepped}
use Rattle.chip.specs.Step.{act}

-- state (76), Chip_ID (77), reload (78), fixed-ID option (79); block 255 stands at 64, its lowest byte is the fixed Chip_ID
unfoldable pub load_of : List ℕ → Chip
load_of b = record { own = get_or b 64 0; state = get_or b 76 0; id = get_or b 77 0; reload = get_or b 78 0; fixed = get_or b 79 0 }

unfoldable pub store_of : List ℕ → Chip → List ℕ
store_of b c = sets b 76 (c.state ∷ c.id ∷ c.reload ∷ [])

-- the first offence in byte order: states 0 to 5; in state 0 Chip_ID is 0; reload 1 only in state 3;
-- option 0 or 1, and with it Chip_ID in other states is byte 64. A rule that joins fields is placed at the later one.
unfoldable pub chip_rules : List ℕ → Verdict
chip_rules b =
    if ltb 5 (get_or b 76 0) then bad Body 76
    else if eqb (get_or b 76 0) 0 && not (eqb (get_or b 77 0) 0) then bad Body 77
    else if ltb 1 (get_or b 78 0) || (eqb (get_or b 78 0) 1 && not (eqb (get_or b 76 0) 3)) then bad Body 78
    else if ltb 1 (get_or b 79 0) || (eqb (get_or b 79 0) 1 && (not (eqb (get_or b 76 0) 0) && not (eqb (get_or b 77 0) (get_or b 64 0)))) then bad Body 79
    else fine

-- blocks 0 to 15 at 0 to 63, block 255 at 64
unfoldable pub place_of : ℕ → ℕ
place_of n = if ltb n 16 then 4 * n else 64

abbrev pub bytes_at : ℕ → List ℕ → List ℕ
bytes_at n b = part (place_of n) 4 b

abbrev pub block_of : ℕ → List ℕ → ℕ
block_of n b = num (bytes_at n b)

-- its UID (68 to 75)
abbrev pub uid_of : List ℕ → List ℕ
uid_of b = part 68 8 b

-- the block that an order writes to
unfoldable pub named : Order → List ℕ → ℕ
named o.Ignored b = 0
named o.Off b = 0
named o.On b = 0
named o.Initiate b = 0
named o.Pcall b = 0
named (o.Marker n) b = 0
named (o.Select id) b = 0
named o.Completion b = 0
named o.Reset b = 0
named (o.Read n) b = 0
named o.Uid b = 0
named (o.Write n v) b = block_of n b

-- a block is written, or none
unfoldable pub worked : Option Put → List ℕ → List ℕ
worked None b = b
worked (Some put) b = sets b (place_of put.block) (bytes_of 4 put.value)

-- the step on a body: old body, order and draw alone decide
unfoldable pub stepped : Order → ℕ → List ℕ → Stepped
stepped order d b = act order d (named order b) (num (part 64 4 b)) (load_of b)

unfoldable pub next_chip : Order → ℕ → List ℕ → List ℕ
next_chip order d b = worked (stepped order d b).work (store_of b (stepped order d b).next)

unfoldable pub said_chip : Order → ℕ → List ℕ → Answer
said_chip order d b = (stepped order d b).answer
