-- Bodies of tags as they are made. Every definition is total: what has no room in a buffer is left out. What is no label is made as a chip.
-- Assumes nothing.
use Rattle.std.specs.Prelude.{◌≡◌, Bool, true, List, [], ◌∷◌, ℕ, ◌+◌, ◌*◌, eqb, ltb, leb, length, get_or, set, replicate, if◌then◌else◌, Result, Ok, Err}
use Rattle.std.proofs.lemmas.List.Edits.{sets}
use Rattle.frame.specs.Choose.{bit}
use Rattle.label.specs.declared.step.Label.{Label}
use Rattle.label.specs.Step.{with_state, with_afi, with_dsfid, with_locks, with_slot}
use Rattle.label_body.specs.Body as label
use Rattle.chip.specs.declared.step.Chip.{Chip}
use Rattle.chip_body.specs.Body as chip
use Rattle.verbs.specs.Data.{place_of}
use Rattle.draft.specs.declared.words.Why.{Why}
use Rattle.rack.specs.declared.tag.Kind.{Kind}
use Rattle.rack.specs.declared.tag.Kind.TheVariants as kind
use Rattle.draft.specs.declared.bodies.Edit.{Edit}
use Rattle.draft.specs.declared.bodies.Edit.TheVariants.{State, Afi, Dsfid, Slot, Mask}
use Rattle.draft.specs.declared.bodies.ChipEdit.{ChipEdit}
use Rattle.draft.specs.declared.bodies.ChipEdit.TheVariants as c

-- ---- what was read of a line, and the body then

pub record Draft (A : Type 0) : Type 0 where
  pub read : Result A Why
  pub body : List ℕ

abbrev pub draft : {A : Type 0} → Result A Why → List ℕ → Draft A
draft read body = record { read = read; body = body }

-- a function returned that, and left its buffer so
pub record Drafts {A : Type 0} (x : Draft A) (r : Result A Why) (new : List ℕ) : Type 0 where
  pub tells : r ≡ x.read
  pub leaves : new ≡ x.body

-- what was read is taken into the body, or else the body stays
abbrev pub taken : {A B : Type 0} → Result A Why → (A → Draft B) → List ℕ → Draft B
taken (Ok x) next b = next x
taken (Err why) next b = draft (Err why) b

-- ---- fields

-- locks: bit 0 is the AFI's, bit 1 the DSFID's
abbrev pub lock_bit : Bool → ℕ
lock_bit on = if on then 1 else 0

abbrev pub afi_lock : ℕ → Bool → ℕ
afi_lock locks on = bit 1 locks * 2 + lock_bit on

abbrev pub dsfid_lock : ℕ → Bool → ℕ
dsfid_lock locks on = lock_bit on * 2 + bit 0 locks

unfoldable pub edited : Edit → Label → Label
edited (State s) l = with_state s l
edited (Afi v on) l = with_locks (afi_lock l.locks on) (with_afi v l)
edited (Dsfid v on) l = with_locks (dsfid_lock l.locks on) (with_dsfid v l)
edited (Slot v) l = with_slot v l.bits l.mask l
edited (Mask bits mask) l = with_slot l.slot bits mask l

-- in a buffer that has no room for the fields nothing changes
unfoldable pub changed : Edit → List ℕ → List ℕ
changed e b = if ltb (length b) 32 then b else label.store_of b (edited e (label.load_of b))

unfoldable pub chip_edited : ChipEdit → Chip → Chip
chip_edited (c.State s) x = record { own = x.own; state = s; id = x.id; reload = x.reload; fixed = x.fixed }
chip_edited (c.Id v) x = record { own = x.own; state = x.state; id = v; reload = x.reload; fixed = x.fixed }
chip_edited (c.Reload v) x = record { own = x.own; state = x.state; id = x.id; reload = v; fixed = x.fixed }

unfoldable pub chip_changed : ChipEdit → List ℕ → List ℕ
chip_changed e b = if ltb (length b) 80 then b else chip.store_of b (chip_edited e (chip.load_of b))

-- ---- a new tag

-- as many zeros as the longest body has bytes
unfoldable pub cleared : List ℕ → List ℕ
cleared b = sets b 0 (replicate 8480 0)

-- off, 28 blocks of 4 bytes (11, 12), no slot (15)
unfoldable pub new_label : List ℕ → List ℕ → List ℕ
new_label uid b = set (sets (sets (cleared b) 0 uid) 11 (27 ∷ 3 ∷ [])) 15 255

-- off; blocks 0 to 6 and 255 (64) all ones, the UID at 68
unfoldable pub new_chip : List ℕ → List ℕ → List ℕ
new_chip uid b = sets (sets (sets (cleared b) 0 (replicate 28 255)) 64 (replicate 4 255)) 68 uid

unfoldable pub new_tag : Kind → List ℕ → List ℕ → List ℕ
new_tag kind.Label uid b = new_label uid b
new_tag kind.Chip uid b = new_chip uid b
new_tag kind.Other uid b = new_chip uid b

-- ---- blocks

-- how many bytes a block has: a label's byte 12 is one less
unfoldable pub block_size : Kind → List ℕ → ℕ
block_size kind.Label b = get_or b 12 0 + 1
block_size kind.Chip b = 4
block_size kind.Other b = 4

-- a label's last block is byte 11; a chip has blocks 0 to 15 and 255
unfoldable pub has_block : Kind → List ℕ → ℕ → Bool
has_block kind.Label b n = leb n (get_or b 11 0)
has_block kind.Chip b n = if ltb n 16 then true else eqb n 255
has_block kind.Other b n = if ltb n 16 then true else eqb n 255

abbrev pub place_in : Kind → List ℕ → ℕ → ℕ
place_in kind.Label b n = label.block_at b n
place_in kind.Chip b n = chip.place_of n
place_in kind.Other b n = chip.place_of n

unfoldable pub block_place : Kind → List ℕ → ℕ → ℕ
block_place kind b n = if ltb (length b) 32 then 0 else place_in kind b n

-- a block's bytes, and a label's lock of it, from 32 on
abbrev pub with_lock : Kind → ℕ → ℕ → List ℕ → List ℕ
with_lock kind.Label n lock b = set b (32 + n) lock
with_lock kind.Chip n lock b = b
with_lock kind.Other n lock b = b

unfoldable pub set_block : Kind → ℕ → List ℕ → ℕ → List ℕ → List ℕ
set_block kind n bytes lock b = with_lock kind n lock (sets b (block_place kind b n) bytes)

-- how long a body is: up to the end of a label's last block
unfoldable pub body_length : Kind → List ℕ → ℕ
body_length kind.Label b = place_of (block_place kind.Label b (get_or b 11 0)) (block_size kind.Label b)
body_length kind.Chip b = 80
body_length kind.Other b = 80
