-- Document 01, "Chips": every answer ends in its check sum; where no content is named it is the Chip_ID. Assumes nothing.
use Rattle.std.specs.Prelude.{Bool, true, false, List, [], ◌∷◌, ℕ}
use Rattle.frame.specs.Number.{part}
use Rattle.frame.specs.CheckSum.{framed}
use Rattle.chip.specs.declared.step.Answer.{Answer}
use Rattle.chip.specs.declared.step.Answer.TheVariants as a
use Rattle.chip_body.specs.Body.{place_of}

abbrev pub speaks : Answer → Bool
speaks a.Silent = false
speaks (a.Id id) = true
speaks (a.Block n) = true
speaks a.Uid = true

-- the answer's frame, its content taken from the body
unfoldable pub answer_frame : Answer → List ℕ → List ℕ
answer_frame a.Silent b = []
answer_frame (a.Id id) b = framed (id ∷ [])
answer_frame (a.Block n) b = framed (part (place_of n) 4 b)
answer_frame a.Uid b = framed (part 68 8 b)
