-- Document 01, "Events": what an event does to one tag, by its kind, and what the tag says. Assumes nothing.
use Rattle.std.specs.Prelude.{Bool, false, List, [], ◌∷◌, ℕ, length, if◌then◌else◌}
use Rattle.request.specs.Label.{data_of}
use Rattle.label_body.specs.Body.{next_label, said_label}
use Rattle.label_body.specs.Answer as label
use Rattle.request.specs.Signal.{signal_of}
use Rattle.request.specs.declared.signal.Signal.{Signal}
use Rattle.chip_body.specs.Body.{next_chip, said_chip}
use Rattle.chip_body.specs.Answer as chip
use Rattle.rack.specs.File.{Kind, Label, Chip, Other}
use Rattle.rack.specs.declared.tag.Said.{Said}
use Rattle.rack.specs.declared.tag.Said.TheVariants as s

-- an event on the air: what it asks, and the bytes that a write to a label sends
pub record Event : Type 0 where
  pub signal : Signal
  pub bytes : List ℕ

abbrev pub carrying : Signal → List ℕ → Event
carrying signal bytes = record { signal = signal; bytes = bytes }

-- event `number` with frame f
abbrev pub aired : ℕ → List ℕ → Event
aired number f = carrying (signal_of number f) (data_of f)

-- a tag's next body follows from its old body, the event and its draw alone
unfoldable pub next_body : Kind → Event → ℕ → List ℕ → List ℕ
next_body Label event d b = next_label event.signal.label event.bytes b
next_body Chip event d b = next_chip event.signal.chip d b
next_body Other event d b = b

-- what it says
unfoldable pub said_by : Kind → Event → ℕ → List ℕ → Said
said_by Label event d b = s.Label (said_label event.signal.label (length event.bytes) b)
said_by Chip event d b = s.Chip (said_chip event.signal.chip d b)
said_by Other event d b = s.Nothing

unfoldable pub speaks : Said → Bool
speaks s.Nothing = false
speaks (s.Label a) = label.speaks a
speaks (s.Chip a) = chip.speaks a

unfoldable pub frame_of : Said → List ℕ → List ℕ
frame_of s.Nothing b = []
frame_of (s.Label a) b = label.answer_frame a b
frame_of (s.Chip a) b = chip.answer_frame a b

-- none, or one frame
unfoldable pub answer_body : Kind → Event → ℕ → List ℕ → List (List ℕ)
answer_body kind event d b = if speaks (said_by kind event d b) then frame_of (said_by kind event d b) b ∷ [] else []
