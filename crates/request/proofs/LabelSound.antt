-- What every decoded request keeps to: masks are short and have no spare bits, bytes to be written are bytes.
-- A property of calls holds of `decode f` where it holds of each of its ends; so the law is one at the ends.
-- Assumes nothing.
use Rattle.std.specs.Prelude.{if◌then◌else◌}
use mathlib.Core.Path.{◌≡◌}
use mathlib.Core.Bool.{Bool, true, not, ◌&&◌, ◌||◌}
use mathlib.Core.List.{List}
use Prim.Native.Nat.{ℕ, ◌+◌, ◌-◌, ◌^◌, ◌≤◌, ◌<◌}
use lib.Dec.{eqb, ltb, lit<}
use lib.ListN.{length, get_or}
use borrow.Author.Tests.{ltb-false}
use Rattle.frame.specs.Choose.{bit, set?}
use Rattle.frame.specs.Number.{Bytes}
use Rattle.frame.specs.CheckSum.{right}
use Rattle.frame.specs.Ending.{bytes_for, mask_at}
use Rattle.frame.proofs.Ending.{mask_lt}
use Rattle.frame.proofs.Bools.{if_either, if_both}
use Rattle.frame.proofs.Numbers.{bytes_part}
use Rattle.request.specs.declared.table.Task.{Task}
use Rattle.request.specs.declared.table.Row.{Row}
use Rattle.std.specs.Prelude.{Option, None, Some}
use Rattle.request.specs.declared.label.Target.{Target}
use Rattle.request.specs.declared.label.Target.TheVariants.{Everyone, Selected, One}
use Rattle.request.specs.declared.label.Family.{Family}
use Rattle.request.specs.declared.label.Family.TheVariants.{Any, Only}
use Rattle.request.specs.declared.label.Call.{Call}
use Rattle.request.specs.declared.label.Call.TheVariants.{Ignored, Off, On, EndOfFrame, Nobody, Inventory, Fault, Do}
use Rattle.request.specs.declared.label.Request.{Request}
use Rattle.request.specs.Table.{table, lookup, has_answer, option_fits}
use Rattle.request.specs.Label.{flag, bare, nobody, most, masked, inventory, target_fits, faulty, both, by_row, checked, call, params}
use Rattle.request.specs.Label.{addressed, unaddressed, addressing, decode, heard, data_of}

-- a mask is no longer than allowed and has no bits above its length; parameters are bytes
unfoldable pub Sound : Call → Type 0
Sound Ignored = Unit
Sound Off = Unit
Sound On = Unit
Sound EndOfFrame = Unit
Sound Nobody = Unit
Sound (Inventory family sixteen bits mask) = (bits ≤ most sixteen) × (mask < 2 ^ bits)
Sound (Fault to code) = Unit
Sound (Do to task p option) = (p.first < 256) × (p.second < 256)

-- ---- the ends of a decoded frame
module _ (P : Call → Type 0) (f : List ℕ) (none : P Nobody)
    (asks : (family : Family) (sixteen : Bool) (at : ℕ)
    → get_or f at 0 ≤ most sixteen
    → P (Inventory family sixteen (get_or f at 0) (mask_at f (at + 1) (get_or f at 0)))) where
  abbrev Ends : Request → Type 0
  Ends r = P r.call

  nobody_ends : Ends nobody
  unfolding nobody
  nobody_ends = none

  masked_ends : (family : Family) (sixteen : Bool) (at : ℕ) → Ends (masked family sixteen at f)
  unfolding masked
  masked_ends family sixteen at =
      if_either Ends (ltb (most sixteen) (get_or f at 0)) nobody _ (λ e. nobody_ends)
      (λ e.
      if_both Ends (not (eqb (length f) (at + 3 + bytes_for (get_or f at 0)))) nobody_ends
      (asks family sixteen at (ltb-false (most sixteen) (get_or f at 0) e)))

  inventory_ends : Ends (inventory f)
  unfolding inventory
  inventory_ends =
      if_both Ends (not (eqb (get_or f 1 0) 1)) nobody_ends
      (if_both Ends (set? (flag 6 f)) nobody_ends
      (if_both Ends (set? (flag 4 f)) (masked_ends (Only (get_or f 2 0)) (eqb (flag 5 f) 0) 3) (masked_ends Any (eqb (flag 5 f) 0) 2)))

  framed_ends : Ends (addressing f (get_or f 0 0)) → Ends (decode f)
  unfolding decode
  framed_ends h =
      if_both Ends (ltb (length f) 4) nobody_ends
      (if_both Ends (set? (flag 3 f) || set? (flag 7 f)) nobody_ends (if_both Ends (not (right f)) nobody_ends h))

  -- the Inventory flag set
  pub flagged_ends : set? (flag 2 f) ≡ true → Ends (decode f)
  unfolding addressing
  flagged_ends h = framed_ends (rw h inventory_ends)

  -- any frame
  module _ (fault : (to : Target) (code : ℕ) → P (Fault to code))
      (writes : (to : Target) (task : Task) (at : ℕ) (option : Bool) → P (Do to task (both (get_or (params at f) 0 0) 0) option))
      (does : (to : Target) (task : Task) (at : ℕ) (option : Bool) → P (Do to task (both (get_or (params at f) 0 0) (get_or (params at f) 1 0)) option)) where
    faulty_ends : (to : Target) (row : Row) (code : ℕ) → P (faulty to row code)
    faulty_ends to row code = if_both P (has_answer row.success) (fault to code) none

    row_ends : (to : Target) (option : Bool) (at : ℕ) (row : Row) → P (by_row to option (params at f) row)
    unfolding by_row
    row_ends to option at row =
        if_both P (not (target_fits row to)) none
        (if_both P row.block (writes to row.task at option)
        (if_both P (not (eqb (length (params at f) + 4) row.len)) (faulty_ends to row 2)
        (if_both P (not (option_fits row option)) (faulty_ends to row 3) (does to row.task at option))))

    checked_ends : (to : Target) (option : Bool) (at : ℕ) (found : Option Row) → P (checked to option (params at f) found)
    unfolding checked
    checked_ends to option at None = fault to 1
    checked_ends to option at (Some row) = row_ends to option at row

    call_ends : (to : Target) (c : ℕ) (option : Bool) (at : ℕ) → P (call to c option (params at f))
    unfolding call
    call_ends to c option at = if_both P (eqb c 1) none (checked_ends to option at (lookup c table))

    addressing_ends : (flags : ℕ) → Ends (addressing f flags)
    unfolding addressing addressed unaddressed
    addressing_ends flags =
        if_both Ends (set? (bit 2 flags)) inventory_ends
        (if_both Ends (set? (bit 5 flags) && set? (bit 4 flags)) nobody_ends
        (if_both Ends (set? (bit 5 flags))
        (if_both Ends (ltb (length f) 12) nobody_ends (call_ends One (get_or f 1 0) (set? (bit 6 flags)) 10))
        (call_ends (if set? (bit 4 flags) then Selected else Everyone) (get_or f 1 0) (set? (bit 6 flags)) 2)))

    pub decode_ends : Ends (decode f)
    decode_ends = framed_ends (addressing_ends (get_or f 0 0))

pub decode_sound : (f : List ℕ) → Bytes f → Sound (decode f).call
unfolding Sound
decode_sound f h =
    decode_ends Sound f tt (λ family sixteen at l. (l, mask_lt f (at + 1) (get_or f at 0))) (λ to code. tt)
    (λ to task at option. (bytes_part at (length f - 2 - at) f h 0, lit< tt))
    (λ to task at option. (bytes_part at (length f - 2 - at) f h 0, bytes_part at (length f - 2 - at) f h 1))

-- ---- the same of any event

module _ (number : ℕ) (f : List ℕ) where
  pub heard_ends : (P : Request → Type 0) → P (bare Off) → P (bare On) → P (decode f) → P (bare EndOfFrame) → P (bare Ignored) → P (heard number f)
  unfolding heard
  heard_ends P off on frame end ignored =
      if_both P (eqb number 1) off
      (if_both P (eqb number 2) on (if_both P (eqb number 3) frame (if_both P (eqb number 4) end ignored)))

  pub heard_sound : Bytes f → Sound (heard number f).call
  unfolding Sound
  heard_sound h = heard_ends (λ r. Sound r.call) tt tt (decode_sound f h) tt tt

-- ---- bytes to be written

pub data_bytes : (f : List ℕ) → Bytes f → Bytes (data_of f)
unfolding data_of
data_bytes f h = if_both Bytes (set? (flag 5 f)) (bytes_part 11 (length f - 2 - 11) f h) (bytes_part 3 (length f - 2 - 3) f h)
