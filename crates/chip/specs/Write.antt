-- Document 01, "Chips": what a written block becomes. o is the old block, w the written one, s block 255. Assumes nothing.
use Rattle.std.specs.Prelude.{Bool, not, ◌&&◌, ℕ, ◌+◌, ◌*◌, ◌/◌, ◌%◌, ◌^◌, eqb, ltb, if◌then◌else◌}
use Rattle.std.specs.Int.Bits.{bit_and}
use Rattle.frame.specs.Choose.{bit}

-- o AND w
abbrev pub only_down : ℕ → ℕ → ℕ
only_down o w = bit_and o w

-- w if w < o, else it stays
unfoldable pub count_down : ℕ → ℕ → ℕ
count_down o w = if ltb w o then w else o

-- bits 31 to 16 become o AND w, the rest stay
unfoldable pub lock_down : ℕ → ℕ → ℕ
lock_down o w = bit_and (o / 2 ^ 16) (w / 2 ^ 16) * 2 ^ 16 + o % 2 ^ 16

-- bit 16 + a of block 255 at 0 locks block a
unfoldable pub locked : ℕ → ℕ → Bool
locked s a = ltb a 16 && eqb (bit (16 + a) s) 0

-- blocks 0 to 4: o AND w, or w with reload on; 5 and 6 count down; 7 to 15 become w; 255 locks
unfoldable pub written : ℕ → ℕ → ℕ → ℕ → ℕ
written a o w reload =
    if ltb a 5 then (if eqb reload 1 then w else only_down o w)
    else if ltb a 7 then count_down o w
    else if ltb a 16 then w
    else lock_down o w

-- a change of bits 31 to 21 of block 6 sets reload
unfoldable pub reloads : ℕ → ℕ → ℕ → Bool
reloads a o w = eqb a 6 && not (eqb (o / 2 ^ 21) (count_down o w / 2 ^ 21))
