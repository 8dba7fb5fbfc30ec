-- A rack file as the code judges it: what the loops over entries and bodies, which stop at the first offence, and a body are proved by; and the end.
-- Assumes nothing.
use mathlib.Core.Path.{◌≡◌, refl, ap, sym, ◌∙◌}
use mathlib.Core.List.{List}
use Prim.Native.Nat.{ℕ, zero, suc, ◌+◌, ◌-◌, ◌≤◌, ◌<◌}
use native.Mathlib.Omega.{arith}
use Rattle.frame.proofs.Stores.{length_part}
use Rattle.frame.proofs.Judge.{first_none, first_more, first_bad}
use Rattle.rack.specs.File.{count_of, length_at, offset_at, start_of}
use Rattle.rack.specs.Facts.{HeadFine, EntriesFine}
use Rattle.rack.proofs.FilePlaces.{start_none, start_suc, start_more, span_part}
use Rattle.rack.proofs.FileVerdict.{entry_fine, moved_fine, moved_bad, body_short, body_is}

pub ruleset body_judged = (body_short, body_is, moved_fine, moved_bad, span_part, length_part)

pub ruleset entries_judged = (start_none, start_more, first_none, first_more, first_bad, entry_fine)

pub ruleset bodies_judged = (first_none, first_more, first_bad)

-- ---- the end

-- the last entry says where the last body ends
pub last_end : (r : List ℕ) (n : ℕ) → EntriesFine r → n ≡ count_of r → 0 < n
    → offset_at r (n - 1) + length_at r (n - 1) ≡ start_of r (count_of r)
last_end r n ok e p =
    let q : n - 1 + 1 ≡ count_of r = omega arith in
    ap (λ (offset : ℕ). offset + length_at r (n - 1)) (ok (n - 1) (omega arith)).placed ∙ sym (start_more r (n - 1)) ∙ ap (start_of r) q

pub start_fits : (r : List ℕ) → HeadFine r → EntriesFine r → start_of r (count_of r) ≤ 65536
start_fits r h ok = go (count_of r) refl
  where
    go : (m : ℕ) → m ≡ count_of r → start_of r (count_of r) ≤ 65536
    go zero q = rw (← q) (omega (arith, start_none r, h.few))
    go (suc m) q = rw (← q) (omega (arith, start_suc r m, (ok m (omega arith)).small))

-- no body
pub empty_end : (r : List ℕ) (n : ℕ) → n ≡ count_of r → n ≡ 0 → 2 ≡ start_of r (count_of r)
empty_end r n e z = omega (arith, ap (start_of r) (sym e ∙ z) ∙ start_none r)
