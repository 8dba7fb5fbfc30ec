-- What a place of a label's body holds, of what the rules judge. Assumes nothing.
use Rattle.std.specs.Prelude.{ℕ, ◌-◌, eqb, ltb, if◌then◌else◌}
use Rattle.label_body.specs.declared.field.Field.{Field}
use Rattle.label_body.specs.declared.field.Field.TheVariants as f

-- slot (15), mask length (16), mask (17 to 24), zeros (25 to 31), the locks
unfoldable pub later_field : ℕ → Field
later_field place =
    if eqb place 15 then f.Slot
    else if eqb place 16 then f.Bits
    else if ltb place 25 then f.Mask
    else if ltb place 32 then f.Zero
    else f.Lock (place - 32)

-- locks (10), blocks less 1 (11), block length less 1 (12), state (14)
unfoldable pub field_at : ℕ → Field
field_at place =
    if ltb 14 place then later_field place
    else if eqb place 10 then f.Locks
    else if eqb place 11 then f.Blocks
    else if eqb place 12 then f.Size
    else if eqb place 14 then f.State
    else f.Other
