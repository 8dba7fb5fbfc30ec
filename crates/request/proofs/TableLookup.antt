-- The table: a code of more than a byte is in no row.
-- Assumes nothing.
use mathlib.Core.Path.{◌≡◌, refl}
use mathlib.Core.Bool.{Bool, true, ◌&&◌}
use mathlib.Core.List.{List, [], ◌∷◌}
use Prim.Native.Nat.{ℕ, ◌<◌}
use native.Mathlib.Omega.{arith}
use lib.Dec.{ltb}
use borrow.Author.Tests.{ne_eqb, ltb-true}
use Rattle.frame.proofs.Bools.{and_both}
use Rattle.request.specs.Table.{row_of, table, lookup}
use Rattle.request.specs.declared.table.Row.{Row}
use Rattle.std.specs.Prelude.{None}

-- every row's code is a byte
low : List Row → Bool
low [] = true
low (r ∷ rs) = ltb r.code 256 && low rs

missing : (c : ℕ) (rs : List Row) → 255 < c → low rs ≡ true → lookup c rs ≡ None
unfolding low lookup
missing c [] h e = refl
missing c (r ∷ rs) h e =
    let b = and_both (ltb r.code 256) (low rs) e in
    rw (ne_eqb r.code c (λ q. omega (arith, q, ltb-true r.code 256 b.0))) (missing c rs h b.1)

pub look_over : (c : ℕ) → 255 < c → lookup c table ≡ None
unfolding low table row_of
look_over c h = missing c table h refl
