-- Document 01, "Rack file": the label body, 32 bytes, the locks, the blocks; its rules and the step on it. Assumes nothing.
use Rattle.std.specs.Prelude.{Option, None, Some, ◌≡◌, Bool, not, ◌&&◌, List, [], ◌∷◌, ℕ, ◌+◌, ◌-◌, ◌*◌, ◌^◌, eqb, ltb, leb, length, get_or, if◌then◌else◌}
use Rattle.std.proofs.lemmas.List.Edits.{sets}
use Rattle.frame.specs.Number.{num, bytes_of, part}
use Rattle.frame.specs.declared.verdict.Rule.TheVariants.{Body}
use Rattle.frame.specs.Judge.{Verdict, fine, bad, or_else, first_of, byte_verdict}
use Rattle.request.specs.declared.label.Call.{Call}
use Rattle.request.specs.declared.label.Call.TheVariants.{Ignored, Off, On, EndOfFrame, Nobody, Inventory, Fault, Do}
use Rattle.request.specs.declared.label.Request.{Request}
use Rattle.label.specs.declared.step.Label.{Label}
use Rattle.label.specs.declared.step.Answer.{Answer}
use Rattle.label.specs.declared.step.Work.{Work}
use Rattle.label.specs.declared.step.Work.TheVariants as w
use Rattle.label.specs.declared.step.Stepped.{Stepped}
use Rattle.label_body.specs.Locks.{lock_room, lock_on, with_lock, locks_verdict}
use Rattle.label.specs.Step.{act}

-- ---- what stands where

-- UID (0 to 7), DSFID (8), AFI (9), locks (10), blocks less 1 (11), block length less 1 (12), IC reference (13), state (14),
-- slot (15), mask length (16), mask (17 to 24)
unfoldable pub load_of : List ℕ → Label
load_of b =
    record {
      uid = part 0 8 b;
      dsfid = get_or b 8 0;
      afi = get_or b 9 0;
      locks = get_or b 10 0;
      blocks = get_or b 11 0;
      size = get_or b 12 0;
      ic = get_or b 13 0;
      state = get_or b 14 0;
      slot = get_or b 15 0;
      bits = get_or b 16 0;
      mask = num (part 17 8 b);
    }

-- what a step can change of them
unfoldable pub store_of : List ℕ → Label → List ℕ
store_of b l = sets (sets (sets b 8 (l.dsfid ∷ l.afi ∷ l.locks ∷ [])) 14 (l.state ∷ l.slot ∷ l.bits ∷ [])) 17 (bytes_of 8 l.mask)

-- blocks, and bytes in a block
abbrev pub blocks_of : List ℕ → ℕ
blocks_of b = get_or b 11 0 + 1

abbrev pub size_of : List ℕ → ℕ
size_of b = get_or b 12 0 + 1

-- the locks at 32; then the blocks
unfoldable pub block_at : List ℕ → ℕ → ℕ
block_at b n = 32 + lock_room b + n * size_of b

-- the bytes of block n
abbrev pub block_of : ℕ → List ℕ → List ℕ
block_of n b = part (block_at b n) (size_of b) b

-- the length that the numbers inside a body ask for
abbrev pub wanted_of : List ℕ → ℕ
wanted_of b = 32 + lock_room b + blocks_of b * size_of b

unfoldable pub Sized : List ℕ → Type 0
Sized b = length b ≡ wanted_of b

-- ---- the rules, in the order of the bytes; a rule that joins fields is placed at the later one

-- locks, blocks less 1 (the length must fit), block length less 1, state
unfoldable pub head_rules : List ℕ → Verdict
head_rules b =
    if ltb 3 (get_or b 10 0) then bad Body 10
    else if not (eqb (length b) (wanted_of b)) then bad Body 11
    else if ltb 31 (get_or b 12 0) then bad Body 12
    else if ltb 3 (get_or b 14 0) then bad Body 14
    else fine

-- mask length at most 60
unfoldable pub bits_rules : List ℕ → Verdict
bits_rules b = if ltb 60 (get_or b 16 0) then bad Body 16 else fine

-- slot 0 to 15, or 255 for none; a slot other than 255 needs state 1 or 3; with slot 255 the mask length is zero
unfoldable pub slot_rules : List ℕ → Verdict
slot_rules b =
    if eqb (get_or b 15 0) 255 then (if not (eqb (get_or b 16 0) 0) then bad Body 16 else fine)
    else if ltb 15 (get_or b 15 0) then bad Body 15
    else if not (eqb (get_or b 14 0) 1) && not (eqb (get_or b 14 0) 3) then bad Body 15
    else bits_rules b

-- byte j of the mask has a bit above the mask's length
unfoldable pub over : List ℕ → ℕ → Bool
over b j = leb (2 ^ (get_or b 16 0 - 8 * j)) (get_or b (17 + j) 0)

unfoldable pub mask_verdict : List ℕ → ℕ → Verdict
mask_verdict b j = if over b j then bad Body (17 + j) else fine

-- then zeros (25 to 31) and the locks
unfoldable pub label_rules : List ℕ → Verdict
label_rules b =
    or_else (head_rules b)
    (or_else (slot_rules b)
    (or_else (first_of 8 (mask_verdict b))
    (or_else (first_of 7 (byte_verdict b 25 0))
    (locks_verdict b))))

-- ---- the step

-- the lock of the block that the first parameter names
unfoldable pub named : Call → List ℕ → ℕ
named Ignored b = 0
named Off b = 0
named On b = 0
named EndOfFrame b = 0
named Nobody b = 0
named (Inventory family sixteen bits mask) b = 0
named (Fault to code) b = 0
named (Do to task p option) b = lock_on p.first b

-- a block becomes the bytes sent, or is locked
unfoldable pub worked : Option Work → List ℕ → List ℕ → List ℕ
worked None bytes b = b
worked (Some (w.Write n)) bytes b = sets b (block_at b n) bytes
worked (Some (w.Lock n)) bytes b = with_lock n b

-- old body, request and bytes sent alone decide
unfoldable pub stepped : Request → ℕ → List ℕ → Stepped
stepped r count b = act r count (named r.call b) (load_of b)

unfoldable pub next_label : Request → List ℕ → List ℕ → List ℕ
next_label r bytes b = worked (stepped r (length bytes) b).work bytes (store_of b (stepped r (length bytes) b).next)

unfoldable pub said_label : Request → ℕ → List ℕ → Answer
said_label r count b = (stepped r count b).answer
