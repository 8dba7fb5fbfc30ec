-- Not for the reader of the paper: what the rules of a label's body say, as facts, and what the writers of a block and of an answer need.
-- Assumes nothing.
use Rattle.std.specs.Prelude.{Option, None, Some, ◌≡◌, List, ℕ, ◌+◌, ◌^◌, ◌≤◌, ◌<◌, get_or}
use Rattle.frame.specs.Number.{num, part}
use Rattle.label_body.specs.Locks.{LocksFine}
use Rattle.label.specs.declared.step.Answer.{Answer}
use Rattle.label.specs.declared.step.Answer.TheVariants as a
use Rattle.label.specs.declared.step.Work.{Work}
use Rattle.label.specs.declared.step.Work.TheVariants as w
use Rattle.label_body.specs.Body.{Sized, size_of}

pub record LabelFine (b : List ℕ) : Type 0 where
  pub locks : get_or b 10 0 ≤ 3
  pub sized : Sized b
  pub size : get_or b 12 0 ≤ 31
  pub state : get_or b 14 0 ≤ 3
  -- no slot, or one from 0 to 15
  pub slot : (get_or b 15 0 ≡ 255 → ⊥) → get_or b 15 0 ≤ 15
  pub ready : (get_or b 15 0 ≡ 255 → ⊥) → (get_or b 14 0 ≡ 1 → ⊥) → get_or b 14 0 ≡ 3
  pub idle : get_or b 15 0 ≡ 255 → get_or b 16 0 ≡ 0
  pub bits : get_or b 16 0 ≤ 60
  pub mask : num (part 17 8 b) < 2 ^ get_or b 16 0
  pub zeros : (j : ℕ) → j < 7 → get_or b (25 + j) 0 ≤ 0
  pub locked : LocksFine b

-- a work that stays inside the body, with count bytes sent
unfoldable pub WorkFits : Option Work → ℕ → List ℕ → Type 0
WorkFits None count b = Unit
WorkFits (Some (w.Write n)) count b = (n ≤ get_or b 11 0) × (count ≡ size_of b)
WorkFits (Some (w.Lock n)) count b = n ≤ get_or b 11 0

-- an answer that the body can give: the blocks are there
unfoldable pub AnswerFits : Answer → List ℕ → Type 0
AnswerFits a.Silent b = Unit
AnswerFits (a.Error code) b = Unit
AnswerFits a.Done b = Unit
AnswerFits a.Found b = Unit
AnswerFits (a.Block n lock) b = n ≤ get_or b 11 0
AnswerFits a.Info b = Unit
AnswerFits (a.Blocks n more) b = n + more ≤ get_or b 11 0
AnswerFits (a.LocksAndBlocks n more) b = n + more ≤ get_or b 11 0
AnswerFits (a.Locks n more) b = n + more ≤ get_or b 11 0
