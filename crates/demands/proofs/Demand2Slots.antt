-- Demand 2 in the later slots of a sixteen-slot Inventory: in slot s each label's body is `during` that slot, and what it says there is read as it means it.
-- Assumes nothing.
use mathlib.Core.Path.{◌≡◌, refl}
use mathlib.Core.Bool.{Bool, true}
use mathlib.Core.List.{List, []}
use Prim.Native.Nat.{ℕ, suc, ◌+◌, ◌^◌, ◌≤◌, ◌<◌}
use native.Mathlib.Omega.{arith}
use lib.Dec.{eqb, ltb}
use lib.ListN.{length, get_or}
use Rattle.frame.specs.Ending.{ends_in_slot}
use Rattle.frame.specs.Number.{Bytes}
use Rattle.frame.proofs.Numbers.{bytes_part}
use Rattle.frame.proofs.Bools.{if_either}
use Rattle.request.specs.Label as labels
use Rattle.request.specs.Chip as chips
use Rattle.request.specs.declared.label.Target.{Target}
use Rattle.request.specs.declared.label.Family.{Family}
use Rattle.request.specs.declared.label.Family.TheVariants.{Any, Only}
use Rattle.request.specs.declared.label.Call.TheVariants.{EndOfFrame}
use Rattle.request.specs.declared.chip.Order.TheVariants.{Ignored}
use Rattle.label.specs.declared.step.Stepped.{Stepped}
use Rattle.label.specs.Step.{act, called, end_of_frame, turn}
use Rattle.label_body.specs.Body.{load_of, stepped, said_label}
use Rattle.label_body.specs.Answer.{answer_frame}
use Rattle.label_body.specs.Slots.{during}
use Rattle.label_body.proofs.FactsFine.{rules_fine}
use Rattle.chip_body.specs.Body.{said_chip}
use Rattle.reader.specs.declared.command.Command.{Command}
use Rattle.reader.specs.declared.command.Command.TheVariants.{Inventory}
use Rattle.reader.specs.Command.{valid}
use Rattle.reader.specs.Request.{content, encode, chip_takes}
use Rattle.reader.proofs.CommandValid.{valid_inventory}
use Rattle.accord.specs.Tags.{label_meaning, bytes_told, bytes_meant, slot_says}
use Rattle.accord.proofs.TagsLabelRead.{slot_said}
use Rattle.accord.proofs.TagsChipRead.{chip_read}
use Rattle.rack.specs.declared.tag.Kind.TheVariants as kinds
use Rattle.rack.specs.declared.tag.Kind.{Kind}
use Rattle.rack.specs.File.{count_of, kind_at, length_at, start_of, body_at, rebuilt, body_rules}
use Rattle.rack.specs.Facts.{TagFine}
use Rattle.rack.specs.Tag.{aired, said_by, frame_of}
use Rattle.rack.proofs.FileVerdict.{rack_fine}
use Rattle.rack.proofs.FileRebuilt.{rebuilt_count, rebuilt_kind, rebuilt_body, tag_fine}
use Rattle.rack.proofs.TagKinds.{fits_none, chip_80}
use Rattle.inventory.specs.Walk.{PerEvent, request, slot_outcome}
use Rattle.inventory.proofs.WalkBodies.{during_body}
use Rattle.inventory.proofs.WalkEvents.{Fine, Lent}
use Rattle.inventory.proofs.WalkSent.{event}
use Rattle.inventory.proofs.WalkRounds.{bodies, sized, bodies_fine, slot_next, in_slot}
use Rattle.demands.specs.Demand2.{meaning_of, block_meant, said_at, Understood, Demand2Slots}
use Rattle.demands.proofs.Demand2.{ReadAs, no_block, understood}

-- what a label says to an end of frame tells no place
slot_block : (b f : List ℕ) → bytes_told (label_meaning (slot_says b) b).meaning f ≡ bytes_meant (slot_says b) b
unfolding said_label stepped act called end_of_frame turn bytes_told label_meaning bytes_meant
slot_block b f =
    let l = load_of b in
    if_either P (eqb l.state 0) _ _ (λ q. refl)
    (λ q. if_either P (ltb l.slot 15) _ _
    (λ q. if_either P (ends_in_slot l.uid l.mask l.bits (l.slot + 1)) _ _ (λ q. refl) (λ q. refl))
    (λ q. if_either P (eqb l.slot 15) _ _ (λ q. refl) (λ q. refl)))
  where
    P : Stepped → Type 0
    P x = bytes_told (label_meaning x.answer b).meaning f ≡ bytes_meant x.answer b

-- the event of an end of frame
bare_end : aired 4 [] ≡ event EndOfFrame
unfolding labels.heard labels.data_of chips.heard
bare_end = refl

module _ (to : Target) (option : Bool) (family : Family) (bits mask : ℕ) (uid d : List ℕ)
    (v : valid (Inventory to option family true bits mask) (length d) ≡ true) where
  abbrev command : Command
  command = Inventory to option family true bits mask

  -- one tag, in a slot below 15
  slot_reads : (kind : Kind) (draw s : ℕ) (b : List ℕ) → s < 15 → TagFine kind b → Bytes b
      → ReadAs command uid d (said_by kind (event EndOfFrame) draw (during_body family bits mask s kind b)) (during_body family bits mask s kind b)
  unfolding said_by frame_of meaning_of block_meant during_body body_rules chip_takes
  slot_reads kinds.Label draw s b h ok bytes =
      let e = slot_said to option family bits mask uid (length d) v b (rules_fine b bytes ok.rules) s h in
      let x = during family bits mask s b in
      record { reading = e; block = rw e (slot_block x (answer_frame (slot_says x) x)) }
  slot_reads kinds.Chip draw s b h ok bytes =
      let e = chip_read command uid d (length d) v Ignored refl draw b (chip_80 b ok) in
      record { reading = e; block = rw e (no_block (said_chip Ignored draw b) b _) }
  slot_reads kinds.Other draw s b h ok bytes = absurd (fits_none (length b) ok.fits)

  -- the walk asks as the writer does
  same_request : request family bits mask ≡ encode command uid d
  unfolding request encode content
  same_request = go family
    where
      go : (x : Family) → request x bits mask ≡ encode (Inventory to option x true bits mask) uid d
      go Any = refl
      go (Only afi) = refl

  module _ (r : List ℕ) (draws outs : PerEvent) (fine : Fine r) (lent : Lent draws outs r) (s : ℕ) (h : s < 15) where
    short : bits ≤ 60
    short = (valid_inventory to option family true bits mask (length d) v).short

    low : mask < 2 ^ bits
    low = (valid_inventory to option family true bits mask (length d) v).low

    -- the bodies and the rack in slot s
    abbrev body : ℕ → List ℕ
    body = bodies r fine family bits mask short low s

    abbrev now : List ℕ
    now = rebuilt r body

    each_sized : (i : ℕ) → i < count_of r → length (body i) ≡ length_at r i
    each_sized = sized r fine family bits mask short low s

    -- each of its tags
    tag_reads : (ds : List ℕ) (i : ℕ) → i < count_of now → ReadAs command uid d (said_at now (event EndOfFrame) ds i) (body_at now i)
    tag_reads ds i below =
        let whole = fine.rack.whole in
        let there : i < count_of r = omega (arith, below, rebuilt_count r whole body each_sized) in
        rw (rebuilt_kind r whole body each_sized i there, rebuilt_body r whole body each_sized i there)
        (slot_reads (kind_at r i) (get_or ds i 0) s (body_at r i) h (tag_fine r fine.rack i there) (bytes_part (start_of r i) (length_at r i) r fine.bytes))

    slot_understood : Understood command uid d (aired 4 []) (slot_outcome draws outs r family bits mask s).rack (draws bits mask (suc s))
        (slot_outcome draws outs r family bits mask (suc s))
    slot_understood =
        let was = in_slot r fine family bits mask short low lent s (omega arith) in
        let is = slot_next r fine family bits mask short low lent s (omega arith) was in
        rw (bare_end, was, is)
        (understood command uid d (event EndOfFrame) now (draws bits mask (suc s)) (outs bits mask (suc s))
        (bodies_fine r fine family bits mask short low s (omega arith)) (tag_reads (draws bits mask (suc s))))

pub demand_2_slots : Demand2Slots
demand_2_slots to option family bits mask uid d r draws outs q s h = (
  same_request to option family bits mask uid d q.request,
  slot_understood to option family bits mask uid d q.request r draws outs (record { rack = rack_fine r q.well_formed; bytes = q.bytes })
      (record { size = q.drawn; room = q.room }) s h,
)
