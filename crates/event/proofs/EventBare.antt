-- Field off, field on and the bare end of frame carry no frame: what is handed over as one changes nothing of the outcome, since bytes sent
-- matter to a write alone. Assumes nothing.
use Rattle.std.specs.Prelude.{if◌then◌else◌}
use mathlib.Core.Path.{◌≡◌, refl, sym, ap, ap₂, ◌∙◌}
use mathlib.Core.Logic.{◌⊎◌, inl, inr}
use mathlib.Core.Bool.{Bool, true, false, false≢true}
use mathlib.Core.List.{List, [], ◌∷◌}
use Prim.Native.Nat.{ℕ}
use lib.Dec.{eqb}
use lib.ListN.{length, get_or}
use Rattle.request.specs.Label as labels
use Rattle.request.specs.Chip as chips
use Rattle.request.specs.declared.label.Target.{Target}
use Rattle.request.specs.declared.table.Task.TheVariants.{Write}
use Rattle.request.specs.declared.label.Params.{Params}
use Rattle.request.specs.declared.label.Call.{Call}
use Rattle.request.specs.declared.label.Call.TheVariants.{Ignored, Off, On, EndOfFrame, Nobody, Inventory, Fault, Do}
use Rattle.request.specs.declared.label.Request.{Request}
use Rattle.request.specs.declared.chip.Order.{Order}
use Rattle.label_body.specs.Body.{next_label, said_label}
use Rattle.label_body.proofs.Floor.{unsent_next, unsent_said}
use Rattle.chip_body.specs.Body.{next_chip, said_chip}
use Rattle.frame.proofs.Gather.{gather_ext}
use Rattle.rack.specs.declared.tag.Said.{Said}
use Rattle.rack.specs.declared.tag.Said.TheVariants as s
use Rattle.rack.specs.declared.tag.Kind.{Kind}
use Rattle.rack.specs.declared.tag.Kind.TheVariants.{Label, Chip, Other}
use Rattle.rack.specs.File.{count_of, kind_at, body_at}
use Rattle.rack.specs.Tag.{aired, next_body, said_by, speaks, frame_of, answer_body}
use Rattle.rack.proofs.FileRebuilt.{rebuilt_ext}
use Rattle.event.specs.Event.{next, answer, next_rack, answers, opened, length_alone, refused, refusal_of, event_of}

-- a task's call
abbrev does : Call → Bool
does Ignored = false
does Off = false
does On = false
does EndOfFrame = false
does Nobody = false
does (Inventory family sixteen bits mask) = false
does (Fault to code) = false
does (Do to task p option) = true

module _ (number : ℕ) (bare : (number ≡ 1) ⊎ ((number ≡ 2) ⊎ (number ≡ 4))) where
  by_number : (P : ℕ → Type 0) → P 1 → P 2 → P 4 → P number
  by_number P off on end = go bare
    where
      go : (number ≡ 1) ⊎ ((number ≡ 2) ⊎ (number ≡ 4)) → P number
      go (inl e) = rw e off
      go (inr (inl e)) = rw e on
      go (inr (inr e)) = rw e end

  label_same : (f g : List ℕ) → labels.heard number f ≡ labels.heard number g
  unfolding labels.heard
  label_same f g = by_number (λ n. labels.heard n f ≡ labels.heard n g) refl refl refl

  chip_same : (f g : List ℕ) → chips.heard number f ≡ chips.heard number g
  unfolding chips.heard
  chip_same f g = by_number (λ n. chips.heard n f ≡ chips.heard n g) refl refl refl

  no_task : (f : List ℕ) → does (labels.heard number f).call ≡ false
  unfolding labels.heard
  no_task f = by_number (λ n. does (labels.heard n f).call ≡ false) refl refl refl

  no_write : (f : List ℕ) (to : Target) (p : Params) (option : Bool) → (labels.heard number f).call ≡ Do to Write p option → ⊥
  no_write f to p option e = false≢true (sym (no_task f) ∙ ap does e)

  module _ (f g : List ℕ) where
    body_same : (kind : Kind) (d : ℕ) (b : List ℕ) → next_body kind (aired number f) d b ≡ next_body kind (aired number g) d b
    unfolding next_body
    body_same Label d b =
        ap (λ (r : Request). next_label r (labels.data_of f) b) (label_same f g)
        ∙ unsent_next (labels.heard number g) b (no_write g) (labels.data_of f) (labels.data_of g)
    body_same Chip d b = ap (λ (order : Order). next_chip order d b) (chip_same f g)
    body_same Other d b = refl

    said_same : (kind : Kind) (d : ℕ) (b : List ℕ) → said_by kind (aired number f) d b ≡ said_by kind (aired number g) d b
    unfolding said_by
    said_same Label d b =
        ap s.Label
        (ap (λ (r : Request). said_label r (length (labels.data_of f)) b) (label_same f g)
        ∙ unsent_said (labels.heard number g) b (no_write g) (length (labels.data_of f)) (length (labels.data_of g)))
    said_same Chip d b = ap (λ (order : Order). s.Chip (said_chip order d b)) (chip_same f g)
    said_same Other d b = refl

    rack_same : (r ds : List ℕ) → next_rack r (aired number f) ds ≡ next_rack r (aired number g) ds
    unfolding next_rack next
    rack_same r ds = rebuilt_ext r _ _ (λ i h. body_same (kind_at r i) (get_or ds i 0) (body_at r i))

    answers_same : (r ds : List ℕ) → answers r (aired number f) ds ≡ answers r (aired number g) ds
    unfolding answers answer answer_body
    answers_same r ds =
        gather_ext (count_of r) _ _
        (λ i h.
        ap (λ (x : Said). if speaks x then frame_of x (body_at r i) ∷ [] else []) (said_same (kind_at r i) (get_or ds i 0) (body_at r i)))

    -- a statement, which nothing cites
    pub frame_ignored : (r ds out : List ℕ) → event_of r number f ds out ≡ event_of r number g ds out
    unfolding event_of
    frame_ignored r ds out =
        ap₂
        (λ (x : List ℕ) (xs : List (List ℕ)).
        if eqb (refusal_of r number (length ds) (length out)) 0
        then record { report = record { number = 0; answered = length xs; length = length_alone xs }; rack = x; out = opened xs out }
        else refused (refusal_of r number (length ds) (length out)) r out)
        (rack_same r ds) (answers_same r ds)
