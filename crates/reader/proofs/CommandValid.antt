-- What a command that has a request keeps to: the tests of `valid` taken apart, each as a fact.
-- Assumes nothing.
use mathlib.Core.Path.{◌≡◌}
use mathlib.Core.Bool.{Bool, true, false, not, ◌&&◌}
use Prim.Native.Nat.{ℕ, ◌^◌, ◌≤◌, ◌<◌}
use native.Mathlib.Omega.{arith}
use lib.Dec.{eqb, ltb, leb}
use borrow.Author.Tests.{leb-true, ltb-true, eqb-true}
use Rattle.frame.proofs.Bools.{and_both}
use Rattle.request.specs.Table.{row_of, option_fits}
use Rattle.request.specs.Label.{most, target_fits}
use Rattle.request.specs.declared.table.Task.{Task}
use Rattle.request.specs.declared.table.Row.{Row}
use Rattle.request.specs.declared.label.Params.{Params}
use Rattle.request.specs.declared.label.Target.{Target}
use Rattle.request.specs.declared.label.Family.{Family}
use Rattle.request.specs.Chip.{listed}
use Rattle.reader.specs.declared.command.ChipTask.{ChipTask}
use Rattle.reader.specs.declared.command.ChipTask.TheVariants as p
use Rattle.reader.specs.declared.command.Command.TheVariants.{Inventory, Label, Chip}
use Rattle.reader.specs.Command.{everyone, data_fits, range_fits, label_fits, chip_fits, inventory_fits, valid}

-- ---- Inventory

pub record InventoryFacts (sixteen : Bool) (bits mask : ℕ) : Type 0 where
  pub short : bits ≤ most sixteen
  pub long : bits ≤ 64
  pub low : mask < 2 ^ bits

most_64 : (sixteen : Bool) → most sixteen ≤ 64
most_64 true = omega arith
most_64 false = omega arith

pub valid_inventory : (to : Target) (option : Bool) (family : Family) (sixteen : Bool) (bits mask n : ℕ)
    → valid (Inventory to option family sixteen bits mask) n ≡ true → InventoryFacts sixteen bits mask
unfolding valid inventory_fits
valid_inventory to option family sixteen bits mask n v =
    let a = and_both (not option) (everyone to && (leb bits (most sixteen) && ltb mask (2 ^ bits))) v in
    let b = and_both (everyone to) (leb bits (most sixteen) && ltb mask (2 ^ bits)) a.1 in
    let d = and_both (leb bits (most sixteen)) (ltb mask (2 ^ bits)) b.1 in
    let h : bits ≤ most sixteen = leb-true bits (most sixteen) d.0 in
    record {
      short = h;
      long = omega (arith, most_64 sixteen);
      low = ltb-true mask (2 ^ bits) d.1;
    }

-- ---- chips

pub valid_chip : (to : Target) (option : Bool) (task : ChipTask) (n : ℕ) → valid (Chip to option task) n ≡ true → chip_fits task n ≡ true
unfolding valid
valid_chip to option task n v =
    (and_both (everyone to) (chip_fits task n) (and_both (not option) (everyone to && chip_fits task n) v).1).1

pub marker_small : (s n : ℕ) → chip_fits (p.Marker s) n ≡ true → (1 ≤ s) × (s ≤ 15)
unfolding chip_fits
marker_small s n e = let a = and_both (leb 1 s) (leb s 15) e in (leb-true 1 s a.0, leb-true s 15 a.1)

pub read_listed : (a n : ℕ) → chip_fits (p.Read a) n ≡ true → listed a ≡ true
unfolding chip_fits
read_listed a n e = e

pub write_listed : (a n : ℕ) → chip_fits (p.Write a) n ≡ true → (n ≡ 4) × (listed a ≡ true)
unfolding chip_fits
write_listed a n e = let b = and_both (eqb n 4) (listed a) e in (eqb-true n 4 b.0, b.1)

-- ---- labels

pub record LabelFacts (row : Row) (to : Target) (option : Bool) (p : Params) (n : ℕ) : Type 0 where
  pub allowed : option_fits row option ≡ true
  pub target : target_fits row to ≡ true
  pub count : data_fits row n ≡ true
  pub range : range_fits row p ≡ true

pub valid_label : (to : Target) (option : Bool) (task : Task) (p : Params) (n : ℕ) → valid (Label to option task p) n ≡ true
    → LabelFacts (row_of task) to option p n
unfolding valid label_fits
valid_label to option task p n v =
    let row = row_of task in
    let a = and_both (option_fits row option) (target_fits row to && (data_fits row n && range_fits row p)) v in
    let b = and_both (target_fits row to) (data_fits row n && range_fits row p) a.1 in
    let d = and_both (data_fits row n) (range_fits row p) b.1 in
    record { allowed = a.0; target = b.0; count = d.0; range = d.1 }

-- a block's data is 1 to 32 bytes
pub block_long : (row : Row) (n : ℕ) → row.block ≡ true → data_fits row n ≡ true → (1 ≤ n) × (n ≤ 32)
block_long row n h e = let a = and_both (leb 1 n) (leb n 32) (rw h at e) in (leb-true 1 n a.0, leb-true n 32 a.1)
