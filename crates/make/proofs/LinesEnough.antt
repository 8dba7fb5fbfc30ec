-- As many steps as a text has bytes are enough for its lines: more of them find no other. Assumes nothing.
use Rattle.std.proofs.Common.{◌≡◌, ℕ, zero, suc, ◌+◌, ◌-◌, ◌^◌, ◌<◌, ◌≤◌, List, [], ◌∷◌, length, sym, refl, ap, ◌∙◌, ⊎_elim, arith, le-leb}
use borrow.Author.Tests.{lt-leb}
use Rattle.frame.proofs.Bools.{below_or_not}
use Rattle.text.specs.Mark.{mark_length}
use Rattle.text.proofs.WordsLead.{lead_from}
use Rattle.verbs.specs.Tokens.{another, find_in}
use Rattle.verbs.specs.Data.{place_of}
use Rattle.make.specs.Lines.{Line, line_of, lines_from, lines_of}

-- behind a line comes a later place
later : (text : List ℕ) (at : ℕ) → length text + 1 < 2 ^ 64 → at < length text → at < place_of (find_in text at 10) 1
unfolding place_of find_in
later text at k h = let l = lead_from (another 10) text at (omega arith) in omega arith

over : (steps : ℕ) (text : List ℕ) (at : ℕ) → length text ≤ at → lines_from steps text at ≡ []
unfolding lines_from
over zero text at h = refl
over (suc steps) text at h = rw (le-leb (length text) at h)

-- where one step more finds a line, and those behind it
module _ (steps more : ℕ) (text : List ℕ) (at : ℕ) where
  abbrev behind : ℕ
  behind = place_of (find_in text at 10) 1

  one : at < length text → lines_from (steps + more) text behind ≡ lines_from steps text behind
      → lines_from (suc steps + more) text at ≡ lines_from (suc steps) text at
  unfolding lines_from
  one l i =
      let to = find_in text at 10 in
      let e : suc steps + more ≡ suc (steps + more) = omega arith in
      ap (λ (n : ℕ). lines_from n text at) e
      ∙ rw (lt-leb (length text) at l) (ap (λ (ls : List Line). record { bytes = line_of text at to; long = to - at } ∷ ls) i)

enough : (steps more : ℕ) (text : List ℕ) (at : ℕ) → length text + 1 < 2 ^ 64 → length text ≤ at + steps
    → lines_from (steps + more) text at ≡ lines_from steps text at
enough zero more text at k h = over (zero + more) text at (omega arith) ∙ sym (over zero text at (omega arith))
enough (suc steps) more text at k h =
    ⊎_elim
    (λ l. let j = later text at k l in one steps more text at l (enough steps more text (behind steps more text at) k (omega arith)))
    (λ l. over (suc steps + more) text at l ∙ sym (over (suc steps) text at l))
    (below_or_not at (length text))

pub lines_enough : (text : List ℕ) (more : ℕ) → length text + 1 < 2 ^ 64 → lines_from (length text + more) text (mark_length text) ≡ lines_of text
unfolding lines_of
lines_enough text more k = enough (length text) more text (mark_length text) k (omega arith)
