-- A label as text. Assumes nothing.
use Rattle.std.specs.Prelude.{List, [], ◌∷◌, ◌++◌, ℕ, ◌+◌, ◌/◌, ◌%◌, eqb, if◌then◌else◌}
use Rattle.frame.specs.Choose.{gather}
use Rattle.frame.specs.Number.{bytes_of}
use Rattle.frame.specs.Ending.{bytes_for}
use Rattle.label.specs.declared.step.Label.{Label}
use Rattle.label_body.specs.Locks.{lock_on}
use Rattle.label_body.specs.Body.{load_of, block_of}
use Rattle.print.specs.Ascii.{ascii}
use Rattle.print.specs.Decimal.{decimal_text}
use Rattle.print.specs.Hex.{pairs_text, uid_text}
use Rattle.sheet.specs.Words.{label_state, lock_mark}
use Rattle.sheet.specs.Blocks.{block_line, all_zero, tag_line}

-- a mask: how many bits, and as few bytes as hold them, high byte first
unfoldable pub mask_text : ℕ → ℕ → List ℕ
mask_text bits mask = decimal_text bits ++ (ascii "/" ++ uid_text (bytes_of (bytes_for bits) mask))

unfoldable pub mask_field : ℕ → ℕ → List ℕ
mask_field bits mask = if eqb bits 0 then [] else ascii "  mask " ++ mask_text bits mask

-- the slot of a running sequence, and its mask
unfoldable pub slot_field : Label → List ℕ
slot_field l = if eqb l.slot 255 then [] else ascii "  slot " ++ (decimal_text l.slot ++ mask_field l.bits l.mask)

-- bit 0 of the locks is AFI's, bit 1 DSFID's
unfoldable pub afi_field : Label → List ℕ
afi_field l = ascii "  afi " ++ (pairs_text (l.afi ∷ []) ++ lock_mark (eqb (l.locks % 2) 1))

unfoldable pub dsfid_field : Label → List ℕ
dsfid_field l = ascii "  dsfid " ++ (pairs_text (l.dsfid ∷ []) ++ lock_mark (eqb (l.locks / 2 % 2) 1))

unfoldable pub ic_field : Label → List ℕ
ic_field l = ascii "  ic " ++ pairs_text (l.ic ∷ [])

unfoldable pub byte_fields : Label → List ℕ
byte_fields l = afi_field l ++ (dsfid_field l ++ ic_field l)

unfoldable pub label_line : Label → List ℕ
label_line l = ascii "  state " ++ (label_state l.state ++ (byte_fields l ++ (slot_field l ++ ascii "\n")))

unfoldable pub blocks_line : Label → List ℕ
blocks_line l = ascii "  blocks " ++ (decimal_text (l.blocks + 1) ++ (ascii " of " ++ (decimal_text (l.size + 1) ++ ascii "\n")))

unfoldable pub label_head : ℕ → Label → List ℕ
label_head i l = tag_line (ascii "label ") (uid_text l.uid) i ++ (label_line l ++ blocks_line l)

-- the line of block n, or nothing where it is all zeros and not locked
unfoldable pub label_block : List ℕ → ℕ → List ℕ
label_block b n =
    if eqb (lock_on n b) 1 then block_line n (block_of n b) (eqb (lock_on n b) 1)
    else if all_zero (block_of n b) then []
    else block_line n (block_of n b) (eqb (lock_on n b) 1)

unfoldable pub label_text : ℕ → List ℕ → List ℕ
label_text i b = label_head i (load_of b) ++ gather ((load_of b).blocks + 1) (label_block b)
