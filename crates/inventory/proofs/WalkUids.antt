-- The UIDs gathered, and from the frames heard in a slot to the members of a mask among them. Idea: a tag has one UID or none, and its frame, if it
-- speaks, holds it; then over all tags by `gather`. Assumes nothing.
use Rattle.std.specs.Prelude.{if◌then◌else◌}
use mathlib.Core.Path.{◌≡◌, refl, ap, sym, ◌∙◌}
use mathlib.Core.Bool.{Bool, true, false, ◌&&◌}
use mathlib.Core.List.{List, [], ◌∷◌, map}
use Prim.Native.Nat.{ℕ, zero, suc, ◌+◌, ◌^◌, ◌≤◌, ◌<◌}
use native.Mathlib.Omega.{arith}
use borrow.Author.Tests.{ne_eqb}
use lib.Dec.{eqb}
use lib.ListN.{length, get_or, drop, length-map}
use lib.Seq.{length-take-le, take_at}
use Rattle.frame.specs.Choose.{gather}
use Rattle.frame.specs.Number.{num, bytes_of, part, Bytes}
use Rattle.frame.specs.CheckSum.{framed_with, crc_of}
use Rattle.frame.specs.Ending.{ends_in, ends_in_slot}
use Rattle.frame.proofs.Bools.{if_both}
use Rattle.frame.proofs.Numbers.{bytes_num, bytes_take, num_lt}
use Rattle.frame.proofs.Ending.{ends_longer}
use Rattle.frame.proofs.CheckSumFrames.{length_framed}
use Rattle.label_body.specs.Answer.{answer_frame}
use Rattle.label.specs.Step.{passes, ready, heeds}
use Rattle.label_body.specs.Body.{load_of}
use Rattle.label_body.specs.Slots.{uid_of, takes_part}
use Rattle.request.specs.declared.label.Family.{Family}
use Rattle.request.specs.declared.label.Family.TheVariants.{Any}
use Rattle.label.specs.declared.step.Answer.TheVariants.{Found}
use Rattle.rack.specs.declared.tag.Kind.{Kind}
use Rattle.rack.specs.declared.tag.Kind.TheVariants.{Label, Chip, Other}
use Rattle.rack.specs.File.{count_of, kind_at, body_at}
use Rattle.label_body.proofs.Slots.{found_frame}
use Rattle.frame.proofs.Gather.{gather_ext}
use Rattle.rack.proofs.FilePlaces.{part_in}
use Rattle.rack.proofs.FileRebuilt.{body_long}
use Rattle.event.specs.Event.{opened}
use Rattle.inventory.specs.Endings.{ending, count}
use Rattle.inventory.specs.Walk as walk
use Rattle.inventory.specs.Walk.{PerEvent, slot_outcome, hits, uid_at, uids_to, uids}
use Rattle.inventory.specs.Promise.{flat}
use Rattle.inventory.proofs.WalkSent.{uid_alone}
use Rattle.inventory.proofs.Lists.{map_gather, Each, each_gather, gather_few}
use Rattle.inventory.proofs.EndingsTwice.{Distinct}
use Rattle.inventory.proofs.EndingsWalks.{Below, count_append}
use Rattle.inventory.proofs.PromiseFlat.{flat_one, flat_none}
use Rattle.inventory.proofs.EndingsTrie.{keep_append, members, mask}
use Rattle.inventory.specs.Numbers.{lone}
use Rattle.inventory.proofs.WalkBodies.{called, spoken}
use Rattle.inventory.proofs.WalkEvents.{Fine, Lent, tag, tag_long}
use Rattle.inventory.proofs.WalkRounds.{asked, asked_size, asked_uid, frames, heard_in}

-- ---- members

members_gather : (M c n : ℕ) (g : ℕ → List ℕ) → members M c (gather n g) ≡ gather n (λ i. members M c (g i))
unfolding gather
members_gather M c zero g = refl
members_gather M c (suc n) g = keep_append (λ u. eqb (ending M u) c) (gather n g) (g n) ∙ rw (members_gather M c n g)

-- ---- the UID in a frame

abbrev uid_in : List ℕ → ℕ
uid_in f = num (part 2 8 f)

frame_uid : (b : List ℕ) → 8 ≤ length b → part 2 8 (answer_frame Found b) ≡ part 0 8 b
unfolding framed_with
frame_uid b h = rw (found_frame b) (take_at (part 0 8 b) (bytes_of 2 (crc_of (0 ∷ get_or b 8 0 ∷ part 0 8 b))) 8 (length-take-le 8 b h))

frame_long : (b : List ℕ) → 8 ≤ length b → 10 ≤ length (answer_frame Found b)
frame_long b h = rw (found_frame b, length_framed 0xFFFF true (0 ∷ get_or b 8 0 ∷ part 0 8 b)) (omega (arith, length-take-le 8 b h))

uid_bytes : (b : List ℕ) → Bytes b → 8 ≤ length b → bytes_of 8 (uid_of b) ≡ part 0 8 b
uid_bytes b small h =
    ap (λ (n : ℕ). bytes_of n (uid_of b)) (sym (length-take-le 8 b h)) ∙ bytes_num (part 0 8 b) (bytes_take 8 b small)

uid_lt : (b : List ℕ) → Bytes b → 8 ≤ length b → uid_of b < 2 ^ 64
uid_lt b small h = num_lt 8 (part 0 8 b) (bytes_take 8 b small) (omega (arith, length-take-le 8 b h))

-- a frame that holds a UID
pub record Proper (f : List ℕ) : Type 0 where
  pub long : 10 ≤ length f
  pub bytes : bytes_of 8 (uid_in f) ≡ part 2 8 f

-- the only frame's UID, as it opens the answer buffer, and as a number
opened_alone : (fs : List (List ℕ)) (out : List ℕ) → Each Proper fs → (if eqb (length fs) 1 then part 2 8 (opened fs out) else []) ≡ uid_alone fs
opened_alone [] out p = refl
opened_alone (f ∷ []) out p = part_in f (drop (length f) out) 2 8 p.0.long
opened_alone (f ∷ g ∷ fs) out p = rw (ne_eqb (length (f ∷ g ∷ fs)) 1 (λ z. omega (arith, z))) refl

alone_flat : (fs : List (List ℕ)) → Each Proper fs → uid_alone fs ≡ flat (lone (map uid_in fs))
alone_flat [] p = sym flat_none
alone_flat (f ∷ []) p = sym p.0.bytes ∙ sym (flat_one (uid_in f))
alone_flat (f ∷ g ∷ fs) p = sym flat_none

-- ---- the UIDs gathered

one_at_most : (family : Family) (kind : Kind) (b : List ℕ) → length (uid_at family kind b) ≤ 1
unfolding uid_at
one_at_most family Label b = if_both (λ us. length us ≤ 1) (takes_part family b) {x = uid_of b ∷ []} {y = []} (omega arith) (omega arith)
one_at_most family Chip b = omega arith
one_at_most family Other b = omega arith

pub uids_to_few : (family : Family) (r : List ℕ) (n : ℕ) → length (uids_to family r n) ≤ n
unfolding uids_to
uids_to_few family r n = gather_few n _ (λ i. one_at_most family (kind_at r i) (body_at r i))

pub uids_few : (family : Family) (r : List ℕ) → length (uids family r) ≤ count_of r
uids_few family r = uids_to_few family r (count_of r)

-- they have 64 bits
uid_at_below : (family : Family) (kind : Kind) (b : List ℕ) → Bytes b → 8 ≤ length b → Below 64 (uid_at family kind b)
unfolding uid_at
uid_at_below family Label b small h = if_both (Below 64) (takes_part family b) (uid_lt b small h, tt) tt
uid_at_below family Chip b small h = tt
uid_at_below family Other b small h = tt

pub uids_below : (r : List ℕ) → Fine r → (family : Family) → Below 64 (uids family r)
unfolding uids_to
uids_below r fine family =
    each_gather (λ u. u < 2 ^ 64) (count_of r) _ (λ i h.
    uid_at_below family (kind_at r i) (body_at r i) (tag r fine i h).small (omega (arith, body_long r fine.rack.whole i h, tag_long r fine.rack i h)))

-- a family's are some of all
some_count : (family : Family) (kind : Kind) (v : ℕ) (b : List ℕ) → count v (uid_at family kind b) ≤ count v (uid_at Any kind b)
unfolding uid_at takes_part heeds passes
some_count family Label v b = go (ready (load_of b)) (passes family (load_of b).afi)
  where
    go : (q t : Bool) → count v (if q && t then uid_of b ∷ [] else []) ≤ count v (if q && true then uid_of b ∷ [] else [])
    go true true = omega arith
    go true false = omega arith
    go false t = omega arith
some_count family Chip v b = omega arith
some_count family Other v b = omega arith

count_gather : (v n : ℕ) (f g : ℕ → List ℕ) → ((i : ℕ) → count v (f i) ≤ count v (g i)) → count v (gather n f) ≤ count v (gather n g)
unfolding gather
count_gather v zero f g h = omega arith
count_gather v (suc n) f g h = omega (arith, count_append v (gather n f) (f n), count_append v (gather n g) (g n), count_gather v n f g h, h n)

pub some_distinct : (family : Family) (r : List ℕ) → Distinct (uids Any r) → Distinct (uids family r)
unfolding uids_to
some_distinct family r d v =
    let at : Family → ℕ → List ℕ = λ f i. uid_at f (kind_at r i) (body_at r i) in
    omega (arith, d v, count_gather v (count_of r) (at family) (at Any) (λ i. some_count family (kind_at r i) v (body_at r i)))

-- ---- one tag: it is heard in slot s where its UID is a member of the mask with s above it

module _ (family : Family) (m e s : ℕ) (b x : List ℕ) (low : e < 2 ^ m) (long : 8 ≤ length x) (same : part 0 8 x ≡ part 0 8 b) where
  slot_ends : ends_in_slot (part 0 8 b) e m s ≡ eqb (ending (4 + m) (uid_of b)) (mask m e s)
  unfolding ends_in
  slot_ends = sym (ends_longer (part 0 8 b) e m s low)

  label_heard : (q t : Bool) → eqb (ending (4 + m) (uid_of b)) (mask m e s) ≡ t
      → map uid_in (spoken (q && t) x) ≡ members (4 + m) (mask m e s) (if q then uid_of b ∷ [] else [])
  label_heard true true z = rw (z, frame_uid x long, same) refl
  label_heard true false z = rw z refl
  label_heard false t z = refl

  heard_one : (kind : Kind) → map uid_in (spoken (called family m e s kind b) x) ≡ members (4 + m) (mask m e s) (uid_at family kind b)
  unfolding uid_at called
  heard_one Label = label_heard (takes_part family b) (ends_in_slot (part 0 8 b) e m s) (sym slot_ends)
  heard_one Chip = refl
  heard_one Other = refl

  heard_proper : Bytes b → 8 ≤ length b → (q : Bool) → Each Proper (spoken q x)
  heard_proper small inside true = (record { long = frame_long x long; bytes = rw (frame_uid x long, same) (uid_bytes b small inside) }, tt)
  heard_proper small inside false = tt

-- ---- all of them

module _ (r : List ℕ) (fine : Fine r) (family : Family) (m e : ℕ) (short : m ≤ 60) (low : e < 2 ^ m) (s : ℕ) (h : s ≤ 15) where
  abbrev heard : List (List ℕ)
  heard = frames r fine family m e short low s

  long_enough : (i : ℕ) → i < count_of r → 8 ≤ length (asked r fine family m e short low s i)
  long_enough i b = omega (arith, asked_size r fine family m e short low s i b, tag_long r fine.rack i b)

  frames_members : map uid_in heard ≡ members (4 + m) (mask m e s) (uids family r)
  unfolding uids_to
  frames_members =
      map_gather uid_in (count_of r) _
      ∙ gather_ext (count_of r) _ _ (λ i b.
      heard_one family m e s (body_at r i) (asked r fine family m e short low s i) low (long_enough i b) (asked_uid r fine family m e short low s i b)
      (kind_at r i))
      ∙ sym (members_gather (4 + m) (mask m e s) (count_of r) _)

  frames_proper : Each Proper heard
  frames_proper =
      each_gather Proper (count_of r) _ (λ i b.
      heard_proper family m e s (body_at r i) (asked r fine family m e short low s i) low (long_enough i b) (asked_uid r fine family m e short low s i b)
      (tag r fine i b).small (omega (arith, body_long r fine.rack.whole i b, tag_long r fine.rack i b))
      (called family m e s (kind_at r i) (body_at r i)))

  module _ {draws out : PerEvent} (lent : Lent draws out r) where
    -- in slot s exactly those labels answer that take part and whose UID ends in mask and slot: as many,
    pub heard_count : hits (slot_outcome draws out r family m e s) ≡ length (members (4 + m) (mask m e s) (uids family r))
    heard_count = (heard_in r fine family m e short low lent s h).0 ∙ sym (length-map heard uid_in) ∙ ap length frames_members

    -- and the only one's UID
    heard_uid : walk.alone (slot_outcome draws out r family m e s) ≡ uid_alone heard
    heard_uid =
        let i = heard_in r fine family m e short low lent s h in
        rw (i.0, i.1) (opened_alone heard (out m e s) frames_proper)

    pub heard_alone : walk.alone (slot_outcome draws out r family m e s) ≡ flat (lone (members (4 + m) (mask m e s) (uids family r)))
    heard_alone = heard_uid ∙ alone_flat heard frames_proper ∙ ap (λ (us : List ℕ). flat (lone us)) frames_members
