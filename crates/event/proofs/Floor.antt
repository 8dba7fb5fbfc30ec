-- What the floor asked for, of a whole rack, over any event: each law of one tag holds of each body, since the rack that a call leaves has,
-- at every entry, either the old body (a refusal) or the step of the old one. Assumes nothing.
use Rattle.std.specs.Prelude.{if◌then◌else◌}
use mathlib.Core.Path.{◌≡◌, refl, sym, subst}
use mathlib.Core.Bool.{Bool, true, false}
use mathlib.Core.List.{List}
use mathlib.Core.Logic.{◌⊎◌}
use Prim.Native.Nat.{ℕ, ◌≤◌, ◌<◌}
use native.Mathlib.Nat.{le_refl}
use native.Mathlib.Omega.{arith}
use lib.Bits.{bit_and, and_self}
use lib.Dec.{eqb}
use lib.ListN.{length, get_or}
use Rattle.frame.specs.Choose.{bit}
use Rattle.frame.specs.Number.{num, part, Bytes}
use Rattle.frame.proofs.Numbers.{bytes_part}
use Rattle.label_body.specs.Locks.{lock_on}
use Rattle.label_body.specs.Body as labels
use Rattle.label_body.proofs.Floor as label
use Rattle.label_body.proofs.FactsFine.{long_enough}
use Rattle.chip.specs.Write.{locked}
use Rattle.chip_body.specs.Body as chips
use Rattle.chip_body.proofs.Floor as chip
use Rattle.frame.specs.Judge.{fine}
use Rattle.rack.specs.declared.tag.Kind.{Kind}
use Rattle.rack.specs.declared.tag.Kind.TheVariants.{Label, Chip}
use Rattle.rack.specs.File.{count_of, kind_at, length_at, start_of, body_at, contents, verdict_of}
use Rattle.rack.specs.Facts.{RackFine, TagFine}
use Rattle.rack.specs.Tag.{Event, aired, next_body}
use Rattle.rack.proofs.FileVerdict.{fine_rack}
use Rattle.rack.proofs.FileRebuilt.{tag_fine}
use Rattle.rack.proofs.TagKinds.{chip_80, label_sized, signal_sound}
use Rattle.event.specs.Event.{next_rack, played, refused, refusal_of, event_of}
use Rattle.event.proofs.EventNext.{body_next, contents_stay, next_verdict}

-- what holds of the rack before and of the next rack holds of the rack that a call leaves
pub left_by : (P : List ℕ → Type 0) (r : List ℕ) (number : ℕ) (f ds out : List ℕ) → P r → P (next_rack r (aired number f) ds)
    → P (event_of r number f ds out).rack
unfolding event_of
left_by P r number f ds out old new = go (eqb (refusal_of r number (length ds) (length out)) 0)
  where
    go : (t : Bool) → P (if t then played r (aired number f) ds out else refused (refusal_of r number (length ds) (length out)) r out).rack
    go true = new
    go false = old

module _ (r : List ℕ) (ok : RackFine r) (number : ℕ) (f ds out : List ℕ) where
  abbrev event : Event
  event = aired number f

  -- the rack left
  abbrev left : List ℕ
  left = (event_of r number f ds out).rack

  -- the contents never change
  pub contents_left : contents left ≡ contents r
  contents_left = left_by (λ x. contents x ≡ contents r) r number f ds out (λ i. contents r) (contents_stay r event ds ok)

  -- the rack left is well-formed
  pub left_fine : Bytes r → Bytes f → Bytes ds → verdict_of left ≡ fine
  left_fine br bf bd =
      let old = fine_rack r ok in
      left_by (λ x. verdict_of x ≡ fine) r number f ds out old (next_verdict r event ds old br bd (signal_sound number f bf))

  module _ (i : ℕ) (h : i < count_of r) where
    abbrev body : List ℕ
    body = body_at r i

    abbrev body_left : List ℕ
    body_left = body_at left i

    -- what holds of the old body and of its step holds of the body left
    pub body_by : (P : List ℕ → Type 0) → P body → P (next_body (kind_at r i) event (get_or ds i 0) body) → P body_left
    body_by P old new = left_by (λ x. P (body_at x i)) r number f ds out old (subst P (sym (body_next r event ds ok i h)) new)

    tag : {kind : Kind} → kind_at r i ≡ kind → TagFine kind body
    tag k = let t = tag_fine r ok i h in rw k at t

    -- ---- labels
    module _ (k : kind_at r i ≡ Label) where
      -- by a law of a label's step
      by_label : (P : List ℕ → Type 0) → P body → P (labels.next_label event.signal.label event.bytes body) → P body_left
      unfolding next_body
      by_label P old new = body_by P old (rw k new)

      long : 25 ≤ length body
      long = omega (arith, long_enough body (label_sized body (tag k)))

      pub uid_stays : part 0 8 body_left ≡ part 0 8 body
      uid_stays = by_label (λ x. part 0 8 x ≡ part 0 8 body) (λ j. part 0 8 body) (label.uid_stays event.signal.label event.bytes body)

      -- block count and block length are bytes 11 and 12
      pub numbers_stay : (j : ℕ) → 11 ≤ j → j < 14 → get_or body_left j 0 ≡ get_or body j 0
      numbers_stay j low high =
          by_label (λ x. get_or x j 0 ≡ get_or body j 0) (λ t. get_or body j 0) (label.numbers_stay event.signal.label event.bytes body j low high)

      pub locked_block_stays : (n : ℕ) → n < labels.blocks_of body → lock_on n body ≡ 1
          → part (labels.block_at body n) (labels.size_of body) body_left ≡ part (labels.block_at body n) (labels.size_of body) body
      locked_block_stays n m l =
          by_label
          (λ x. part (labels.block_at body n) (labels.size_of body) x ≡ part (labels.block_at body n) (labels.size_of body) body)
          (λ j. part (labels.block_at body n) (labels.size_of body) body)
          (label.locked_block_stays event.signal.label event.bytes body n m l)

      -- and stays locked
      pub lock_stays : (n : ℕ) → n < labels.blocks_of body → lock_on n body ≡ 1 → lock_on n body_left ≡ 1
      lock_stays n m l =
          by_label (λ x. lock_on n x ≡ 1) l (label.lock_stays event.signal.label event.bytes body n m l (label_sized body (tag k)))

      pub locked_afi_stays : bit 0 (get_or body 10 0) ≡ 1 → (get_or body_left 9 0 ≡ get_or body 9 0) × (bit 0 (get_or body_left 10 0) ≡ 1)
      locked_afi_stays l =
          by_label (λ x. (get_or x 9 0 ≡ get_or body 9 0) × (bit 0 (get_or x 10 0) ≡ 1)) (refl, l)
          (label.locked_afi_stays event.signal.label event.bytes body long l)

      pub locked_dsfid_stays : bit 1 (get_or body 10 0) ≡ 1 → (get_or body_left 8 0 ≡ get_or body 8 0) × (bit 1 (get_or body_left 10 0) ≡ 1)
      locked_dsfid_stays l =
          by_label (λ x. (get_or x 8 0 ≡ get_or body 8 0) × (bit 1 (get_or x 10 0) ≡ 1)) (refl, l)
          (label.locked_dsfid_stays event.signal.label event.bytes body long l)

    -- ---- chips
    module _ (k : kind_at r i ≡ Chip) where
      by_chip : (P : List ℕ → Type 0) → P body → P (chips.next_chip event.signal.chip (get_or ds i 0) body) → P body_left
      unfolding next_body
      by_chip P old new = body_by P old (rw k new)

      eighty : length body ≡ 80
      eighty = chip_80 body (tag k)

      pub chip_uid_stays : part 68 8 body_left ≡ part 68 8 body
      chip_uid_stays =
          by_chip (λ x. part 68 8 x ≡ part 68 8 body) (λ j. part 68 8 body) (chip.uid_stays event.signal.chip (get_or ds i 0) body eighty)

      -- a counter never rises
      pub counter_falls : (n : ℕ) → (n ≡ 5) ⊎ (n ≡ 6) → chips.block_of n body_left ≤ chips.block_of n body
      counter_falls n c =
          by_chip (λ x. chips.block_of n x ≤ chips.block_of n body) (le_refl (chips.block_of n body))
          (chip.counter_falls event.signal.chip (get_or ds i 0) body n c eighty)

      pub locked_stays : (n : ℕ) → locked (num (part 64 4 body)) n ≡ true → chips.block_of n body_left ≡ chips.block_of n body
      locked_stays n l =
          by_chip (λ x. chips.block_of n x ≡ chips.block_of n body) (λ j. chips.block_of n body)
          (chip.locked_stays event.signal.chip (get_or ds i 0) body n eighty l)

      -- and stays locked
      pub chip_lock_stays : Bytes r → (n : ℕ) → locked (num (part 64 4 body)) n ≡ true → locked (num (part 64 4 body_left)) n ≡ true
      chip_lock_stays br n l =
          by_chip (λ x. locked (num (part 64 4 x)) n ≡ true) l
          (chip.lock_stays event.signal.chip (get_or ds i 0) body n eighty (bytes_part (start_of r i) (length_at r i) r br) l)

      -- no bit of a resettable block rises without reload
      pub only_down : Bytes r → (n : ℕ) → n < 5 → (get_or body 78 0 ≡ 1 → ⊥)
          → bit_and (chips.block_of n body) (chips.block_of n body_left) ≡ chips.block_of n body_left
      only_down br n m l =
          by_chip (λ x. bit_and (chips.block_of n body) (chips.block_of n x) ≡ chips.block_of n x) (and_self (chips.block_of n body))
          (chip.only_down event.signal.chip (get_or ds i 0) body n m l eighty (bytes_part (start_of r i) (length_at r i) r br))
