-- What holds of every task's row. One law over the tasks, so that the laws above go by the row.
-- Assumes nothing.
use mathlib.Core.Path.{◌≡◌, refl}
use mathlib.Core.Bool.{true, false, not, ◌||◌}
use Prim.Native.Nat.{◌≤◌, ◌<◌}
use lib.Dec.{eqb, ltb, leb}
use borrow.Author.Tests.{eqb-true, ltb-true, leb-true}
use Rattle.request.specs.Table.{row_of, table, lookup}
use Rattle.request.specs.declared.table.Task.{Task}
use Rattle.request.specs.declared.table.Task.TheVariants as t
use Rattle.request.specs.declared.table.Row.{Row}
use Rattle.std.specs.Prelude.{Some}

-- a code that is found and is not Inventory's; four bytes without a UID and one more for a parameter, of which there are at most two; before a block
-- stands one
pub record RowFine (task : Task) (row : Row) : Type 0 where
  pub named : row.task ≡ task
  pub found : lookup row.code table ≡ Some row
  pub other : eqb row.code 1 ≡ false
  pub byte : row.code < 256
  pub least : 4 ≤ row.len
  pub most : row.len ≤ 6
  pub block : row.block ≡ true → row.len ≡ 5

-- from tests that compute
fine : (task : Task) (row : Row) → row.task ≡ task → lookup row.code table ≡ Some row → eqb row.code 1 ≡ false → ltb row.code 256 ≡ true
    → leb 4 row.len ≡ true → leb row.len 6 ≡ true → (not row.block || eqb row.len 5) ≡ true → RowFine task row
fine task row n f o b l m k =
    record {
      named = n;
      found = f;
      other = o;
      byte = ltb-true _ _ b;
      least = leb-true _ _ l;
      most = leb-true _ _ m;
      block = λ e. eqb-true row.len 5 (rw e at k);
    }

pub row_fine : (task : Task) → RowFine task (row_of task)
unfolding row_of table lookup
row_fine t.Quiet = fine _ _ refl refl refl refl refl refl refl
row_fine t.Read = fine _ _ refl refl refl refl refl refl refl
row_fine t.Write = fine _ _ refl refl refl refl refl refl refl
row_fine t.Lock = fine _ _ refl refl refl refl refl refl refl
row_fine t.ReadMany = fine _ _ refl refl refl refl refl refl refl
row_fine t.Select = fine _ _ refl refl refl refl refl refl refl
row_fine t.Ready = fine _ _ refl refl refl refl refl refl refl
row_fine t.WriteAfi = fine _ _ refl refl refl refl refl refl refl
row_fine t.LockAfi = fine _ _ refl refl refl refl refl refl refl
row_fine t.WriteDsfid = fine _ _ refl refl refl refl refl refl refl
row_fine t.LockDsfid = fine _ _ refl refl refl refl refl refl refl
row_fine t.Info = fine _ _ refl refl refl refl refl refl refl
row_fine t.Status = fine _ _ refl refl refl refl refl refl refl
