-- What a place of a chip's body holds, of what the rules judge. Assumes nothing.
use Rattle.std.specs.Prelude.{ℕ, eqb, if◌then◌else◌}
use Rattle.chip_body.specs.declared.field.Field.{Field}
use Rattle.chip_body.specs.declared.field.Field.TheVariants as f

-- state (76), Chip_ID (77), reload (78), fixed-ID option (79)
unfoldable pub field_at : ℕ → Field
field_at place =
    if eqb place 76 then f.State
    else if eqb place 77 then f.Id
    else if eqb place 78 then f.Reload
    else if eqb place 79 then f.Fixed
    else f.Other
