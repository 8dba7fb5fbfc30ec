-- The ways out of the request's functions where a test is on more than plain numbers: each rule of `masked`, `by_row`, `call`, `decode` and `data_of`,
-- by the facts that choose its case.
-- Assumes nothing.
use mathlib.Core.Path.{◌≡◌, ◌∙◌}
use mathlib.Core.Bool.{Bool, true, false}
use mathlib.Core.List.{List, []}
use Prim.Native.Nat.{ℕ, ◌+◌, ◌-◌, ◌/◌, ◌%◌, ◌≤◌, ◌<◌}
use native.Mathlib.Omega.{arith}
use lib.ListN.{length, get_or}
use borrow.Author.Tests.{lt-ltb, le-ltb, eq-eqb, ne_eqb}
use Rattle.frame.specs.Choose.{set?}
use Rattle.frame.specs.Number.{part}
use Rattle.frame.specs.CheckSum.{right}
use Rattle.frame.specs.Ending.{bytes_for, mask_at}
use Rattle.frame.proofs.Bools.{if_both}
use Rattle.request.specs.declared.label.Target.{Target}
use Rattle.request.specs.declared.label.Family.{Family}
use Rattle.request.specs.declared.label.Call.TheVariants.{Nobody, Inventory, Fault, Do}
use Rattle.request.specs.declared.table.Row.{Row}
use Rattle.std.specs.Prelude.{None, Some}
use Rattle.request.specs.Table.{table, lookup, option_fits}
use Rattle.request.specs.Label.{flag, bare, nobody, most, masked, target_fits, faulty, both, by_row, checked, call, addressing, decode, data_of}

-- ---- masks
module _ (family : Family) (sixteen : Bool) (at : ℕ) (f : List ℕ) {n : ℕ} (e : n ≡ most sixteen) where
  pub masked_over : n < get_or f at 0 → masked family sixteen at f ≡ nobody
  unfolding masked
  masked_over h = rw (← e, lt-ltb _ _ h)

  pub masked_misfit : get_or f at 0 ≤ n → (length f ≡ at + 3 + (get_or f at 0 + 7) / 8 → ⊥) → masked family sixteen at f ≡ nobody
  unfolding masked bytes_for
  masked_misfit h z = rw (← e, le-ltb _ _ h, ne_eqb _ _ z)

  pub masked_fits : get_or f at 0 ≤ n → length f ≡ at + 3 + (get_or f at 0 + 7) / 8 → {m : ℕ} → m ≡ mask_at f (at + 1) (get_or f at 0)
      → masked family sixteen at f ≡ bare (Inventory family sixteen (get_or f at 0) m)
  unfolding masked bytes_for
  masked_fits h z q = rw (← e, le-ltb _ _ h, eq-eqb _ _ z, q)

-- ---- a code with its row
module _ (to : Target) (option : Bool) (ps : List ℕ) (row : Row) {t : Bool} (e : t ≡ target_fits row to) where
  pub row_nobody : t ≡ false → by_row to option ps row ≡ Nobody
  unfolding by_row
  row_nobody h = rw (← e, h)

  module _ (fit : t ≡ true) {p : ℕ} (q : p ≡ get_or ps 0 0) where
    pub row_block : row.block ≡ true → by_row to option ps row ≡ Do to row.task (both p 0) option
    unfolding by_row
    row_block h = rw (← e, fit, h, q)

    module _ (z : row.block ≡ false) where
      pub row_length : (length ps + 4 ≡ row.len → ⊥) → by_row to option ps row ≡ faulty to row 2
      unfolding by_row
      row_length h = rw (← e, fit, z, ne_eqb _ _ h)

      module _ (l : length ps + 4 ≡ row.len) {o : Bool} (f : o ≡ option_fits row option) where
        pub row_fits : o ≡ true → {r : ℕ} → r ≡ get_or ps 1 0 → by_row to option ps row ≡ Do to row.task (both p r) option
        unfolding by_row
        row_fits h w = rw (← e, fit, z, eq-eqb _ _ l, ← f, h, q, w)

        pub row_option : o ≡ false → by_row to option ps row ≡ faulty to row 3
        unfolding by_row
        row_option h = rw (← e, fit, z, eq-eqb _ _ l, ← f, h)

module _ (to : Target) (c : ℕ) (option : Bool) (ps : List ℕ) (z : c ≡ 1 → ⊥) where
  pub call_unknown : lookup c table ≡ None → call to c option ps ≡ Fault to 1
  unfolding call checked
  call_unknown e = rw (ne_eqb _ _ z, e)

  pub call_known : (row : Row) → lookup c table ≡ Some row → call to c option ps ≡ by_row to option ps row
  unfolding call checked
  call_known row e = rw (ne_eqb _ _ z, e)

-- ---- a frame that is long enough, with flag bits 3 and 7 clear
module _ (f : List ℕ) (l : 4 ≤ length f) (b3 : get_or f 0 0 / 8 % 2 ≡ 1 → ⊥) (b7 : get_or f 0 0 / 128 % 2 ≡ 1 → ⊥) where
  pub decode_right : right f ≡ true → decode f ≡ addressing f (get_or f 0 0)
  unfolding decode
  decode_right h = rw (le-ltb _ _ l, ne_eqb _ _ b3, ne_eqb _ _ b7, h)

  pub decode_wrong : right f ≡ false → decode f ≡ nobody
  unfolding decode
  decode_wrong h = rw (le-ltb _ _ l, ne_eqb _ _ b3, ne_eqb _ _ b7, h)

-- ---- bytes sent
module _ (f : List ℕ) where
  pub data_one : get_or f 0 0 / 32 % 2 ≡ 1 → data_of f ≡ part 11 (length f - 2 - 11) f
  unfolding data_of
  data_one h = rw (eq-eqb _ _ h)

  pub data_open : (get_or f 0 0 / 32 % 2 ≡ 1 → ⊥) → data_of f ≡ part 3 (length f - 2 - 3) f
  unfolding data_of
  data_open h = rw (ne_eqb _ _ h)

  none : (at : ℕ) → length f ≤ 2 + at → part at (length f - 2 - at) f ≡ []
  none at h = let z : length f - 2 - at ≡ 0 = omega arith in rw z

  pub data_short : length f < 5 → data_of f ≡ []
  unfolding data_of
  data_short h = if_both (λ (x : List ℕ). x ≡ []) (set? (flag 5 f)) (none 11 (omega arith)) (none 3 (omega arith))

  pub data_cut : length f < 13 → get_or f 0 0 / 32 % 2 ≡ 1 → data_of f ≡ []
  data_cut h z = data_one z ∙ none 11 (omega arith)
