-- Document 01, "Chips" and "Events": what a chip does with an order, and what it answers. d is the draw. Assumes nothing.
use Rattle.std.specs.Prelude.{not, ◌||◌, ℕ, ◌+◌, ◌*◌, ◌/◌, ◌%◌, eqb, Some, None, if◌then◌else◌}
use Rattle.request.specs.declared.chip.Order.{Order}
use Rattle.request.specs.declared.chip.Order.TheVariants as o
use Rattle.chip.specs.declared.step.Chip.{Chip}
use Rattle.chip.specs.declared.step.Answer.{Answer}
use Rattle.chip.specs.declared.step.Answer.TheVariants as a
use Rattle.chip.specs.declared.step.Put.{Put}
use Rattle.chip.specs.declared.step.Stepped.{Stepped}
use Rattle.chip.specs.Write.{locked, written, reloads}

-- a chip with its state, Chip_ID and reload anew
abbrev pub with : ℕ → ℕ → ℕ → Chip → Chip
with state id reload c = record { own = c.own; state = state; id = id; reload = reload; fixed = c.fixed }

abbrev pub put : ℕ → ℕ → Put
put n v = record { block = n; value = v }

abbrev pub silent : Chip → Stepped
silent c = record { next = c; answer = a.Silent; work = None }

abbrev pub told : Answer → Chip → Stepped
told answer c = record { next = c; answer = answer; work = None }

-- off puts a tag in state 0 and clears Chip_ID and reload
unfoldable pub field_off : Chip → Stepped
field_off c = silent (with 0 0 0 c)

-- on moves state 0 to ready and gives a Chip_ID: the draw, or byte 64 with the option
unfoldable pub field_on : ℕ → Chip → Stepped
field_on d c =
    if not (eqb c.state 0) then silent c
    else silent (with 1 (if eqb c.fixed 1 then c.own else d) c.reload c)

-- the draw, or the fixed Chip_ID
unfoldable pub chosen : ℕ → Chip → ℕ
chosen d c = if eqb c.fixed 1 then c.id else d

-- 06 00, states 1 and 2: Chip_ID is the draw, or stays fixed; state 2; answers Chip_ID
unfoldable pub initiate : ℕ → Chip → Stepped
initiate d c =
    if eqb c.state 1 || eqb c.state 2 then told (a.Id (chosen d c)) (with 2 (chosen d c) c.reload c)
    else silent c

-- 06 04, state 2: low four bits from the draw, unless fixed; answers if they are 0
unfoldable pub pcall : ℕ → Chip → Stepped
pcall d c =
    if not (eqb c.state 2) then silent c
    else if eqb (chosen d c % 16) 0 then told (a.Id (c.id / 16 * 16 + chosen d c % 16)) (with c.state (c.id / 16 * 16 + chosen d c % 16) c.reload c)
    else silent (with c.state (c.id / 16 * 16 + chosen d c % 16) c.reload c)

-- s6, state 2: answers if the low four bits are s
unfoldable pub marker : ℕ → Chip → Stepped
marker s c =
    if not (eqb c.state 2) then silent c
    else if eqb (c.id % 16) s then told (a.Id c.id) c
    else silent c

-- from state 3 to another; leaving state 3 clears reload
unfoldable pub leave : ℕ → Chip → Stepped
leave s c = if not (eqb c.state 3) then silent c else silent (with s c.id 0 c)

-- 0E id: own id in states 2, 3, 4: state 3, reload 0, answers; other id: 3 goes to 4
unfoldable pub select : ℕ → Chip → Stepped
select id c =
    if not (eqb c.id id) then leave 4 c
    else if eqb c.state 2 || (eqb c.state 3 || eqb c.state 4) then told (a.Id id) (with 3 c.id 0 c)
    else silent c

-- state 3 only: 08 a answers the block, 0B the UID
unfoldable pub read : ℕ → Chip → Stepped
read n c = if not (eqb c.state 3) then silent c else told (a.Block n) c

unfoldable pub uid : Chip → Stepped
uid c = if not (eqb c.state 3) then silent c else told a.Uid c

-- 09, state 3 only, in silence: n the address, v the block written, old the block before, s block 255
unfoldable pub write : ℕ → ℕ → ℕ → ℕ → Chip → Stepped
write n v old s c =
    if not (eqb c.state 3) then silent c
    else if locked s n then silent c
    else record {
      next = (if reloads n old v then with c.state c.id 1 c else c);
      answer = a.Silent;
      work = Some (put n (written n old v c.reload));
    }

-- old is the block that a write names, s is block 255; 0F: 3 to 5; 0C: 3 to 2
unfoldable pub act : Order → ℕ → ℕ → ℕ → Chip → Stepped
act o.Ignored d old s c = silent c
act o.Off d old s c = field_off c
act o.On d old s c = field_on d c
act o.Initiate d old s c = initiate d c
act o.Pcall d old s c = pcall d c
act (o.Marker n) d old s c = marker n c
act (o.Select id) d old s c = select id c
act o.Completion d old s c = leave 5 c
act o.Reset d old s c = leave 2 c
act (o.Read n) d old s c = read n c
act o.Uid d old s c = uid c
act (o.Write n v) d old s c = write n v old s c
