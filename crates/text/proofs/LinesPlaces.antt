-- Where a buffer's first newline is, as a search of the part finds it, what is moved to its front, and what is left at the end. Assumes nothing.
use Rattle.std.proofs.Common.{◌≡◌, refl, ap, sym, ◌∙◌, ℕ, ◌+◌, ◌-◌, ◌≤◌, ◌<◌, arith, List, take, drop, length, ◌++◌, eqb}
use Rattle.std.specs.Prelude.{Bool, true, false, Option, None, Some, position}
use Rattle.std.proofs.lemmas.List.{drop-take}
use Rattle.std.proofs.Math.Seq.{sets-eq}
use Rattle.std.specs.List.{copy_within}
use borrow.Author.Tests.{eq-eqb, ne_eqb}
use Rattle.frame.specs.Number.{part}
use Rattle.frame.proofs.Stores.{length_part}
use Rattle.text.proofs.WordsLead.{first_found, first_missing}
use Rattle.text.specs.Words.{lead}
use Rattle.text.specs.Lines.{no_line, ended_at, in_line, newline_in, last_line, stopped_at, to_front}
use Rattle.text.specs.declared.lines.Source.{Source}
use Rattle.text.specs.declared.lines.Reached.TheVariants.{Line, End}
use Rattle.text.specs.declared.lines.Got.{Got}

-- r is the place of the first newline in the part
module _ (s : List ℕ) (from to : ℕ) (h : from ≤ to) (l : to ≤ length s) (r : Option ℕ) (e : r ≡ position (λ c. eqb c 10) (part from (to - from) s)) where
  of_part : newline_in s from to ≡ from + lead in_line (part from (to - from) s)
  unfolding newline_in
  of_part =
      let k : to ≡ from + (to - from) = omega arith in
      ap (λ (t : List ℕ). from + lead in_line t) (ap (λ (j : ℕ). drop from (take j s)) k ∙ drop-take from (to - from) s)

  long : length (part from (to - from) s) ≡ to - from
  long = length_part from (to - from) s (omega arith)

  pub newline_found : (i : ℕ) → r ≡ Some i → (newline_in s from to ≡ from + i) × (from + i < to)
  newline_found i q =
      let p = first_found (λ c. eqb c 10) (part from (to - from) s) i (sym e ∙ q) in
      let x = long in
      (of_part ∙ ap (λ (j : ℕ). from + j) p.0, omega arith)

  pub newline_none : r ≡ None → newline_in s from to ≡ to
  newline_none q =
      let p = first_missing (λ c. eqb c 10) (part from (to - from) s) (sym e ∙ q) in
      let x = long in
      of_part ∙ omega arith

-- the same of a front
pub newline_front : (s : List ℕ) (to : ℕ) → to ≤ length s → (r : Option ℕ) → r ≡ position (λ c. eqb c 10) (take to s) → (i : ℕ) → r ≡ Some i
    → (newline_in s 0 to ≡ i) × (i < to)
newline_front s to l r e i q =
    let z : to ≡ to - 0 = omega arith in
    let p = newline_found s 0 to (omega arith) l r (e ∙ ap (λ (j : ℕ). position (λ c. eqb c 10) (take j s)) z) i q in
    (p.0 ∙ omega arith, let k = p.1 in omega arith)

-- what is copied to the front
pub front_copied : (s : List ℕ) (start end : ℕ) → start ≤ end → end ≤ length s → copy_within s start end 0 ≡ to_front s start end
front_copied s start end h l =
    let k : length (part start (end - start) s) ≡ end - start = length_part start (end - start) s (omega arith) in
    let i : 0 + length (part start (end - start) s) ≤ length s = omega arith in
    sym (sets-eq (part start (end - start) s) s 0 i ∙ ap (λ (n : ℕ). part start (end - start) s ++ drop (0 + n) s) k)

-- ---- no more comes, as the source x says: no line, or the last one, by what is left and by whether the last read was fine

module _ (to : ℕ) {x : Source} (e : x ≡ ended_at) where
  pub none_left : {g : Got} → g ≡ no_line End x → g ≡ no_line End ended_at
  none_left f = f ∙ ap (no_line End) e

  pub last_none : {g : Got} → to ≡ 0 → g ≡ no_line End x → g ≡ last_line to
  unfolding last_line
  last_none h f = none_left f ∙ sym (rw (eq-eqb to 0 h) refl)

  pub last_there : (to ≡ 0 → ⊥) → record { reached = Line 0 to; source = x } ≡ last_line to
  unfolding last_line
  last_there h = ap (λ (y : Source). record { reached = Line 0 to; source = y }) e ∙ sym (rw (ne_eqb to 0 h) refl)

  pub stopped_failed : {g : Got} (fine : Bool) → fine ≡ false → g ≡ no_line End x → g ≡ stopped_at to fine
  unfolding stopped_at
  stopped_failed fine h f = none_left f ∙ sym (rw h refl)

pub stopped_fine : {g : Got} (to : ℕ) (fine : Bool) → fine ≡ true → g ≡ last_line to → g ≡ stopped_at to fine
unfolding stopped_at
stopped_fine to fine h f = f ∙ sym (rw h refl)
