-- Document 01, "Labels", and document 02, P2: the frame of an answer. Assumes nothing.
use Rattle.std.specs.Prelude.{Bool, true, false, List, [], ◌∷◌, ◌++◌, ℕ, ◌+◌, get_or, if◌then◌else◌}
use Rattle.frame.specs.Choose.{gather}
use Rattle.frame.specs.Number.{part}
use Rattle.frame.specs.CheckSum.{framed}
use Rattle.label.specs.declared.step.Answer.{Answer}
use Rattle.label.specs.declared.step.Answer.TheVariants as a
use Rattle.label_body.specs.Locks.{lock_on}
use Rattle.label_body.specs.Body.{block_of}

abbrev pub speaks : Answer → Bool
speaks a.Silent = false
speaks (a.Error code) = true
speaks a.Done = true
speaks a.Found = true
speaks (a.Block n lock) = true
speaks a.Info = true
speaks (a.Blocks n more) = true
speaks (a.LocksAndBlocks n more) = true
speaks (a.Locks n more) = true

-- 20 read: lock byte if Option, block
unfoldable pub block_bytes : ℕ → Bool → List ℕ → List ℕ
block_bytes n lock b = (if lock then lock_on n b ∷ [] else []) ++ block_of n b

-- document 02, P2: 23 reads block n and so many more behind it, each as 20 does ..
unfoldable pub blocks_bytes : ℕ → ℕ → Bool → List ℕ → List ℕ
blocks_bytes n more lock b = gather (more + 1) (λ i. block_bytes (n + i) lock b)

-- .. and 2C their locks
unfoldable pub locks_bytes : ℕ → ℕ → List ℕ → List ℕ
locks_bytes n more b = gather (more + 1) (λ i. lock_on (n + i) b ∷ [])

-- an error is 01, code; Inventory answers 00, DSFID, UID; 2B 00, 0F, UID, DSFID, AFI, blocks less 1, length less 1, IC reference;
-- success otherwise 00; each with its check sum
unfoldable pub answer_frame : Answer → List ℕ → List ℕ
answer_frame a.Silent b = []
answer_frame (a.Error code) b = framed (1 ∷ code ∷ [])
answer_frame a.Done b = framed (0 ∷ [])
answer_frame a.Found b = framed (0 ∷ get_or b 8 0 ∷ part 0 8 b)
answer_frame (a.Block n lock) b = framed (0 ∷ block_bytes n lock b)
answer_frame a.Info b = framed (0 ∷ 0x0F ∷ (part 0 10 b ++ part 11 3 b))
answer_frame (a.Blocks n more) b = framed (0 ∷ blocks_bytes n more false b)
answer_frame (a.LocksAndBlocks n more) b = framed (0 ∷ blocks_bytes n more true b)
answer_frame (a.Locks n more) b = framed (0 ∷ locks_bytes n more b)
