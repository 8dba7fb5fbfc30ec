-- Document 01, "Chips": what a frame asks. Another length, code or check sum than these is ignored. Assumes nothing.
use Rattle.std.specs.Prelude.{Bool, not, ◌&&◌, ◌||◌, List, ℕ, ◌/◌, ◌%◌, eqb, ltb, length, get_or, if◌then◌else◌}
use Rattle.frame.specs.Number.{num, part}
use Rattle.frame.specs.CheckSum.{right}
use Rattle.request.specs.declared.chip.Order.{Order}
use Rattle.request.specs.declared.chip.Order.TheVariants as o

-- addresses are 0 to 15 and 255
unfoldable pub listed : ℕ → Bool
listed a = ltb a 16 || eqb a 255

-- three bytes: 0B the UID, 0C back to inventory, 0F completion, s6 a slot marker, s from 1 to 15
unfoldable pub short : ℕ → Order
short c =
    if eqb c 0x0B then o.Uid
    else if eqb c 0x0C then o.Reset
    else if eqb c 0x0F then o.Completion
    else if not (eqb (c % 16) 6) || eqb (c / 16) 0 then o.Ignored
    else o.Marker (c / 16)

-- four bytes: 06 00 initiate, 06 04 the call of sixteen slots, 0E id select, 08 a read
unfoldable pub pair : ℕ → ℕ → Order
pair c p =
    if eqb c 0x06 then (if eqb p 0 then o.Initiate else if eqb p 4 then o.Pcall else o.Ignored)
    else if eqb c 0x0E then o.Select p
    else if eqb c 0x08 && listed p then o.Read p
    else o.Ignored

-- eight bytes: 09 a and a block w
unfoldable pub long : ℕ → ℕ → ℕ → Order
long c a w = if eqb c 0x09 && listed a then o.Write a w else o.Ignored

-- lengths include the check sum
unfoldable pub decode : List ℕ → Order
decode f =
    if not (right f) then o.Ignored
    else if eqb (length f) 3 then short (get_or f 0 0)
    else if eqb (length f) 4 then pair (get_or f 0 0) (get_or f 1 0)
    else if eqb (length f) 8 then long (get_or f 0 0) (get_or f 1 0) (num (part 2 4 f))
    else o.Ignored

-- Document 01, "Events": 1 field off, 2 field on, 5 chip frame; chips ignore 3 and 4
unfoldable pub heard : ℕ → List ℕ → Order
heard number f =
    if eqb number 1 then o.Off
    else if eqb number 2 then o.On
    else if eqb number 5 then decode f
    else o.Ignored
