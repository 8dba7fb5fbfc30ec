-- The five slips that document 01 warns of, each from the frame's bytes on and of any rack: an event that is not refused leaves tag i of the rack as
-- the law of one tag says. Assumes nothing.
use mathlib.Core.Path.{◌≡◌, ap, sym, ◌∙◌}
use mathlib.Core.Logic.{◌⊎◌}
use mathlib.Core.Bool.{true, false}
use mathlib.Core.List.{List, [], ◌∷◌}
use Prim.Native.Nat.{ℕ, suc, ◌+◌, ◌*◌, ◌/◌, ◌^◌, ◌≤◌, ◌<◌}
use native.Mathlib.Omega.{arith}
use borrow.Author.Tests.{eq-eqb}
use lib.ListN.{length, get_or}
use Rattle.frame.specs.Choose.{set?}
use Rattle.frame.specs.Number.{num, bytes_of, part, Bytes}
use Rattle.frame.specs.CheckSum.{framed}
use Rattle.frame.proofs.Numbers.{bytes_part, num_inj}
use Rattle.frame.proofs.Stores.{length_part}
use Rattle.request.specs.Label.{flag, data_of, heard}
use Rattle.request.specs.Chip as chips
use Rattle.label.specs.declared.step.Answer.TheVariants as a
use Rattle.label_body.specs.Body.{next_label, said_label}
use Rattle.label_body.specs.Facts.{LabelFine}
use Rattle.label_body.specs.Slots.{clear}
use Rattle.label_body.proofs.FactsFine.{long_enough}
use Rattle.label_body.proofs.Floor as label
use Rattle.chip.specs.Write.{locked, count_down}
use Rattle.chip_body.specs.Body.{next_chip, block_of}
use Rattle.chip_body.proofs.Floor as chip
use Rattle.rack.specs.declared.tag.Kind.{Kind}
use Rattle.rack.specs.declared.tag.Kind.TheVariants.{Label, Chip}
use Rattle.rack.specs.File.{count_of, kind_at, length_at, start_of, body_at}
use Rattle.rack.specs.Facts.{RackFine, TagFine}
use Rattle.rack.specs.Tag.{aired, next_body, said_by, speaks, answer_body}
use Rattle.rack.proofs.FileRebuilt.{tag_fine}
use Rattle.rack.proofs.TagKinds.{label_sized, label_facts, chip_facts, chip_80}
use Rattle.event.specs.Event.{answer, next_rack, refusal_of, event_of}
use Rattle.event.proofs.EventNext.{body_next}
use Rattle.event.proofs.EventOutcomes.{playable}

-- the rack that an event leaves which is not refused
rack_played : (r : List ℕ) (number : ℕ) (f ds out : List ℕ) → refusal_of r number (length ds) (length out) ≡ 0
    → (event_of r number f ds out).rack ≡ next_rack r (aired number f) ds
unfolding event_of
rack_played r number f ds out none = rw (eq-eqb _ _ none)

-- ---- tag i of a rack of bytes, at an event that is not refused
module _ (r : List ℕ) (bytes : Bytes r) (ds out : List ℕ) (i : ℕ) (h : i < count_of r) where
  abbrev body : List ℕ
  body = body_at r i

  -- the body left by event `number` with frame f, and its part of the answers
  abbrev left : ℕ → List ℕ → List ℕ
  left number f = body_at (event_of r number f ds out).rack i

  abbrev says : ℕ → List ℕ → List (List ℕ)
  says number f = answer r (aired number f) ds i

  abbrev Played : ℕ → Type 0
  Played number = refusal_of r number (length ds) (length out) ≡ 0

  body_bytes : Bytes body
  body_bytes = bytes_part (start_of r i) (length_at r i) r bytes

  module _ (number : ℕ) (none : Played number) where
    ok : RackFine r
    ok = (playable r number (length ds) (length out) none).rack

    tag : {kind : Kind} → kind_at r i ≡ kind → TagFine kind body
    tag k = let t = tag_fine r ok i h in rw k at t

    left_body : (f : List ℕ) → left number f ≡ next_body (kind_at r i) (aired number f) (get_or ds i 0) body
    left_body f =
        ap (λ (x : List ℕ). body_at x i) (rack_played r number f ds out none) ∙ body_next r (aired number f) ds ok i h

    left_label : (f : List ℕ) → kind_at r i ≡ Label → left number f ≡ next_label (heard number f) (data_of f) body
    unfolding next_body
    left_label f k = left_body f ∙ rw k

    left_chip : (f : List ℕ) → kind_at r i ≡ Chip → left number f ≡ next_chip (chips.heard number f) (get_or ds i 0) body
    unfolding next_body
    left_chip f k = left_body f ∙ rw k

  says_nothing : (number : ℕ) (f : List ℕ) → kind_at r i ≡ Label → said_label (heard number f) (length (data_of f)) body ≡ a.Silent → says number f ≡ []
  unfolding answer answer_body said_by speaks
  says_nothing number f k e = rw (k, e)

  -- ---- a counter is set to what is written, where that is below it, and never lowered by it
  pub counter_set : (n : ℕ) (w : List ℕ) → (n ≡ 5) ⊎ (n ≡ 6) → length w ≡ 4 → Played 5 → kind_at r i ≡ Chip → get_or body 76 0 ≡ 3
      → locked (num (part 64 4 body)) n ≡ false → block_of n (left 5 (framed (0x09 ∷ n ∷ w))) ≡ count_down (block_of n body) (num w)
  counter_set n w c l none k q z =
      ap (block_of n) (left_chip 5 none (framed (0x09 ∷ n ∷ w)) k)
      ∙ chip.counter_set n w (get_or ds i 0) body c l (chip_80 body (tag 5 none k)) body_bytes q z

  -- ---- Select for another UID: a selected label is ready again, and says nothing
  module _ (flags : ℕ) (uid : List ℕ) (low : flags / 4 ≡ 8) (l : length uid ≡ 8) (k : kind_at r i ≡ Label) (q : get_or body 14 0 ≡ 3)
      (other : uid ≡ part 0 8 body → ⊥) (ub : Bytes uid) where
    abbrev selecting : List ℕ
    selecting = framed (flags ∷ 0x25 ∷ uid)

    pub select_other : Played 3 → (get_or (left 3 selecting) 14 0 ≡ 1) × (says 3 selecting ≡ [])
    select_other none =
        let sized = label_sized body (tag 3 none k) in
        let long : 34 ≤ length body = long_enough body sized in
        let apart : num uid ≡ num (part 0 8 body) → ⊥
        = λ e. other (num_inj uid (part 0 8 body) ub (bytes_part 0 8 body body_bytes) (l ∙ sym (length_part 0 8 body (omega arith))) e) in (
          ap (λ (x : List ℕ). get_or x 14 0) (left_label 3 none selecting k)
              ∙ label.select_other flags uid body low l q apart (data_of selecting) (omega arith),
          says_nothing 3 selecting k (label.select_other_silent flags uid body low l q apart (length (data_of selecting))),
        )

  -- ---- a quiet label answers no Inventory, and is in no slot
  module _ (f : List ℕ) (k : kind_at r i ≡ Label) (q : get_or body 14 0 ≡ 2) where
    pub quiet_inventory : Played 3 → set? (flag 2 f) ≡ true → (left 3 f ≡ clear body) × (says 3 f ≡ [])
    quiet_inventory none s = (
      left_label 3 none f k ∙ label.quiet_still f body q s (data_of f),
      says_nothing 3 f k (label.quiet_silent f body q s (length (data_of f))),
    )

    pub quiet_end : Played 4 → says 4 f ≡ []
    quiet_end none = says_nothing 4 f k (label.quiet_end f (length (data_of f)) body (label_facts body body_bytes (tag 4 none k)) q)

  -- ---- a mask of 60 bits is compared with its slot: one that answers has the whole UID, all 64 bits
  module _ (k : kind_at r i ≡ Label) where
    facts : (number : ℕ) → Played number → LabelFine body
    facts number none = label_facts body body_bytes (tag number none k)

    pub whole_at_end : (f : List ℕ) → Played 4 → get_or body 16 0 ≡ 60 → get_or body 15 0 < 15 → (says 4 f ≡ [] → ⊥)
        → num (part 0 8 body) ≡ suc (get_or body 15 0) * 2 ^ 60 + num (part 17 8 body)
    whole_at_end f none m s z =
        label.whole_at_end body body_bytes (facts 4 none) m s f (length (data_of f)) (λ e. z (says_nothing 4 f k e))

    pub whole_at_start : (mask : ℕ) → mask < 2 ^ 60 → Played 3 → (says 3 (framed (6 ∷ 1 ∷ 60 ∷ bytes_of 8 mask)) ≡ [] → ⊥) → num (part 0 8 body) ≡ mask
    whole_at_start mask m none z =
        let f = framed (6 ∷ 1 ∷ 60 ∷ bytes_of 8 mask) in
        label.whole_at_start body body_bytes (facts 3 none) mask (length (data_of f)) m (λ e. z (says_nothing 3 f k e))

  -- ---- reload does not outlive a SELECT, on any chip
  pub reload_cleared : (id : ℕ) → Played 5 → kind_at r i ≡ Chip → get_or (left 5 (framed (0x0E ∷ id ∷ []))) 78 0 ≡ 0
  reload_cleared id none k =
      let t = tag 5 none k in
      ap (λ (x : List ℕ). get_or x 78 0) (left_chip 5 none (framed (0x0E ∷ id ∷ [])) k)
      ∙ chip.reload_cleared id (get_or ds i 0) body (chip_80 body t) (chip_facts body t)
