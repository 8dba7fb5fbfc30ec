-- Any tag's body through a round: a label's is `during`, any other stays. Idea: by the kind, each law is the label's own or that of a body that
-- stays. Assumes nothing.
use Rattle.std.specs.Prelude.{if◌then◌else◌}
use mathlib.Core.Path.{◌≡◌, refl}
use mathlib.Core.Bool.{Bool, true, false, ◌&&◌}
use mathlib.Core.List.{List, [], ◌∷◌}
use Prim.Native.Nat.{ℕ, suc, ◌^◌, ◌≤◌, ◌<◌}
use lib.ListN.{length}
use Rattle.frame.specs.Number.{part, Bytes}
use Rattle.frame.specs.Ending.{ends_in_slot}
use Rattle.frame.specs.Judge.{fine}
use Rattle.label_body.specs.Answer as label
use Rattle.label_body.specs.Answer.{answer_frame}
use Rattle.label_body.specs.Facts.{LabelFine}
use Rattle.label_body.specs.Slots.{takes_part, during}
use Rattle.request.specs.declared.label.Family.{Family}
use Rattle.request.specs.declared.label.Call.{Call}
use Rattle.request.specs.declared.label.Call.TheVariants.{Inventory, EndOfFrame}
use Rattle.label.specs.declared.step.Answer.TheVariants.{Silent, Found}
use Rattle.label_body.proofs.FactsFine.{rules_fine, fine_rules}
use Rattle.label_body.proofs.Slots.{first, step, last, said_first, said_step, during_fine, during_bytes, during_uid, during_length}
use Rattle.label_body.proofs.Slots.{clear_fine, clear_bytes, clear_uid, clear_length, clear_clear, takes_clear}
use Rattle.rack.specs.declared.tag.Kind.{Kind}
use Rattle.rack.specs.declared.tag.Kind.TheVariants.{Label, Chip, Other}
use Rattle.rack.specs.File.{body_rules}
use Rattle.rack.specs.Tag.{Event, carrying, next_body, said_by, speaks, frame_of, answer_body}
use Rattle.inventory.proofs.WalkSent.{signal}
use Rattle.inventory.specs.Walk.{uid_at, clear_body}
use Rattle.inventory.proofs.WalkChips.{ignored, ignored_said}

-- a body of a well-formed rack
pub record TagOk (kind : Kind) (b : List ℕ) : Type 0 where
  pub small : Bytes b
  pub rules : body_rules kind b ≡ fine

label_ok : {b : List ℕ} → TagOk Label b → LabelFine b
unfolding body_rules
label_ok {b} ok = rules_fine b ok.small ok.rules

-- an event that no chip heeds
abbrev pub event_with : List ℕ → Call → Event
event_with bytes call = carrying (signal call) bytes

-- its body in slot s
unfoldable pub during_body : Family → ℕ → ℕ → ℕ → Kind → List ℕ → List ℕ
during_body family bits mask s Label b = during family bits mask s b
during_body family bits mask s Chip b = b
during_body family bits mask s Other b = b

-- it answers in slot s
unfoldable pub called : Family → ℕ → ℕ → ℕ → Kind → List ℕ → Bool
called family bits mask s Label b = takes_part family b && ends_in_slot (part 0 8 b) mask bits s
called family bits mask s Chip b = false
called family bits mask s Other b = false

-- what it then says
abbrev pub spoken : Bool → List ℕ → List (List ℕ)
spoken q b = if q then answer_frame Found b ∷ [] else []

said : (q : Bool) (b : List ℕ)
    → ◌≡◌ {A = List (List ℕ)} (if label.speaks (if q then Found else Silent) then answer_frame (if q then Found else Silent) b ∷ [] else []) (spoken q b)
said true b = refl
said false b = refl

-- ---- the Inventory

pub body_first : {kind : Kind} {b : List ℕ} → TagOk kind b → (family : Family) (bits mask : ℕ) (bytes : List ℕ) (d : ℕ)
    → next_body kind (event_with bytes (Inventory family true bits mask)) d b ≡ during_body family bits mask 0 kind b
unfolding next_body during_body
body_first {kind = Label} {b} ok family bits mask bytes d = first family bits mask bytes b ok.small (label_ok ok)
body_first {kind = Chip} {b} ok family bits mask bytes d = ignored d b
body_first {kind = Other} {b} ok family bits mask bytes d = refl

pub answer_first : (kind : Kind) (b : List ℕ) (family : Family) (bits mask : ℕ) (bytes : List ℕ) (d : ℕ)
    → answer_body kind (event_with bytes (Inventory family true bits mask)) d b ≡ spoken (called family bits mask 0 kind b) b
unfolding answer_body said_by speaks frame_of called
answer_first Label b family bits mask bytes d =
    rw (said_first family bits mask (length bytes) b) (said (takes_part family b && ends_in_slot (part 0 8 b) mask bits 0) b)
answer_first Chip b family bits mask bytes d = rw (ignored_said d b)
answer_first Other b family bits mask bytes d = refl

-- ---- an end of frame

pub body_step : {kind : Kind} {b : List ℕ} → TagOk kind b → (family : Family) (bits mask : ℕ) (bytes : List ℕ) (d s : ℕ)
    → bits ≤ 60 → mask < 2 ^ bits → s < 15
    → next_body kind (event_with bytes EndOfFrame) d (during_body family bits mask s kind b) ≡ during_body family bits mask (suc s) kind b
unfolding next_body during_body
body_step {kind = Label} {b} ok family bits mask bytes d s short low h = step family bits mask b (label_ok ok) short low s bytes h
body_step {kind = Chip} {b} ok family bits mask bytes d s short low h = ignored d b
body_step {kind = Other} {b} ok family bits mask bytes d s short low h = refl

pub body_last : {kind : Kind} {b : List ℕ} → TagOk kind b → (family : Family) (bits mask : ℕ) (bytes : List ℕ) (d : ℕ)
    → bits ≤ 60 → mask < 2 ^ bits → next_body kind (event_with bytes EndOfFrame) d (during_body family bits mask 15 kind b) ≡ clear_body kind b
unfolding next_body during_body clear_body
body_last {kind = Label} {b} ok family bits mask bytes d short low = last family bits mask b (label_ok ok) short low bytes
body_last {kind = Chip} {b} ok family bits mask bytes d short low = ignored d b
body_last {kind = Other} {b} ok family bits mask bytes d short low = refl

pub answer_step : {kind : Kind} {b : List ℕ} → TagOk kind b → (family : Family) (bits mask : ℕ) (bytes : List ℕ) (d s : ℕ)
    → bits ≤ 60 → mask < 2 ^ bits → s < 15
    → answer_body kind (event_with bytes EndOfFrame) d (during_body family bits mask s kind b)
    ≡ spoken (called family bits mask (suc s) kind b) (during_body family bits mask s kind b)
unfolding answer_body said_by speaks frame_of during_body called
answer_step {kind = Label} {b} ok family bits mask bytes d s short low h =
    rw (said_step family bits mask b (label_ok ok) short low s (length bytes) h)
    (said (takes_part family b && ends_in_slot (part 0 8 b) mask bits (suc s)) (during family bits mask s b))
answer_step {kind = Chip} {b} ok family bits mask bytes d s short low h = rw (ignored_said d b)
answer_step {kind = Other} {b} ok family bits mask bytes d s short low h = refl

-- ---- a body in slot s

pub during_size : (family : Family) (bits mask s : ℕ) (kind : Kind) (b : List ℕ) → length (during_body family bits mask s kind b) ≡ length b
unfolding during_body
during_size family bits mask s Label b = during_length family bits mask s b
during_size family bits mask s Chip b = refl
during_size family bits mask s Other b = refl

pub during_part : (family : Family) (bits mask s : ℕ) (kind : Kind) (b : List ℕ) → part 0 8 (during_body family bits mask s kind b) ≡ part 0 8 b
unfolding during_body
during_part family bits mask s Label b = during_uid family bits mask s b
during_part family bits mask s Chip b = refl
during_part family bits mask s Other b = refl

label_rules : {b : List ℕ} → Bytes b → LabelFine b → body_rules Label b ≡ fine
unfolding body_rules
label_rules {b} small ok = fine_rules b small ok

pub during_rules : {kind : Kind} {b : List ℕ} → TagOk kind b → (family : Family) (bits mask s : ℕ) → bits ≤ 60 → mask < 2 ^ bits → s ≤ 15
    → body_rules kind (during_body family bits mask s kind b) ≡ fine
unfolding during_body
during_rules {kind = Label} {b} ok family bits mask s short low h =
    label_rules (during_bytes family bits mask s b ok.small short h) (during_fine family bits mask s b ok.small (label_ok ok) short low h)
during_rules {kind = Chip} {b} ok family bits mask s short low h = ok.rules
during_rules {kind = Other} {b} ok family bits mask s short low h = ok.rules

-- ---- cleared

pub clear_size : (kind : Kind) (b : List ℕ) → length (clear_body kind b) ≡ length b
unfolding clear_body
clear_size Label b = clear_length b
clear_size Chip b = refl
clear_size Other b = refl

pub clear_twice : (kind : Kind) (b : List ℕ) → clear_body kind (clear_body kind b) ≡ clear_body kind b
unfolding clear_body
clear_twice Label b = clear_clear b
clear_twice Chip b = refl
clear_twice Other b = refl

pub clear_uid_at : (family : Family) (kind : Kind) (b : List ℕ) → uid_at family kind (clear_body kind b) ≡ uid_at family kind b
unfolding clear_body uid_at
clear_uid_at family Label b = rw (takes_clear family b, clear_uid b) refl
clear_uid_at family Chip b = refl
clear_uid_at family Other b = refl

pub clear_ok : {kind : Kind} {b : List ℕ} → TagOk kind b → TagOk kind (clear_body kind b)
unfolding clear_body
clear_ok {kind = Label} {b} ok =
    let small = clear_bytes b ok.small in
    record { small = small; rules = label_rules small (clear_fine b ok.small (label_ok ok)) }
clear_ok {kind = Chip} {b} ok = ok
clear_ok {kind = Other} {b} ok = ok
