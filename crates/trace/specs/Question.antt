-- Whether a rack has a tag of which something holds. Assumes nothing.
use Rattle.std.specs.Prelude.{Bool, true, false, not, ◌&&◌, ◌||◌, List, ℕ, zero, suc, eqb, get_or, if◌then◌else◌}
use Rattle.label_body.specs.Slots.{uid_of, takes_part}
use Rattle.rack.specs.declared.tag.Kind.{Kind}
use Rattle.rack.specs.declared.tag.Kind.TheVariants.{Label, Chip, Other}
use Rattle.rack.specs.File.{count_of, kind_at}
use Rattle.rack.specs.Facts.{body_of}
use Rattle.trace.specs.declared.question.Ask.{Ask}
use Rattle.trace.specs.declared.question.Ask.TheVariants as a

-- a label's state is byte 14 of its body, its slot byte 15
unfoldable pub uid_on : ℕ → List ℕ → Bool
uid_on u b = eqb (uid_of b) u && not (eqb (get_or b 14 0) 0)

unfoldable pub label_fits : Ask → List ℕ → Bool
label_fits a.Label b = true
label_fits a.LabelOn b = not (eqb (get_or b 14 0) 0)
label_fits (a.LabelIn s) b = eqb (get_or b 14 0) s
label_fits (a.Ready family) b = takes_part family b
label_fits (a.Uid u) b = eqb (uid_of b) u
label_fits (a.UidOn u) b = uid_on u b
label_fits (a.Slot s) b = eqb (get_or b 15 0) s
label_fits a.Chip b = false
label_fits a.ChipOn b = false
label_fits (a.ChipIn s) b = false

-- by a chip's state
unfoldable pub chip_fits : Ask → ℕ → Bool
chip_fits a.Label state = false
chip_fits a.LabelOn state = false
chip_fits (a.LabelIn s) state = false
chip_fits (a.Ready family) state = false
chip_fits (a.Uid u) state = false
chip_fits (a.UidOn u) state = false
chip_fits (a.Slot s) state = false
chip_fits a.Chip state = true
chip_fits a.ChipOn state = not (eqb state 0)
chip_fits (a.ChipIn s) state = eqb state s

-- a chip's state is byte 76
unfoldable pub tag_fits : Ask → Kind → List ℕ → Bool
tag_fits ask Label b = label_fits ask b
tag_fits ask Chip b = chip_fits ask (get_or b 76 0)
tag_fits ask Other b = false

-- some number below n
unfoldable pub some : ℕ → (ℕ → Bool) → Bool
some zero p = false
some (suc n) p = some n p || p n

unfoldable pub any_of : Ask → List ℕ → Bool
any_of ask r = some (count_of r) (λ i. tag_fits ask (kind_at r i) (body_of r i))

-- the lowest slot from s on that a label has, of so many; else the one behind them
unfoldable pub lowest_from : ℕ → ℕ → List ℕ → ℕ
lowest_from zero s r = s
lowest_from (suc n) s r = if any_of (a.Slot s) r then s else lowest_from n (suc s) r
