-- The place, and what is left from it on, add up to the same end. Assumes nothing.
use Rattle.std.proofs.Common.{◌≡◌, ℕ, ◌+◌, Bool, not, drop}
use Rattle.text.specs.Words.{Decides, lead}
use Rattle.text.proofs.words.first_from.Given as goal

abbrev pub invariant-loop-i : goal.invariant-loop-i
invariant-loop-i g l =
    (p : ℕ → Bool) → Decides (goal.F-post g l.stops) p
    → l.i + lead (λ c. not (p c)) (drop l.i l.s) ≡ l.from + lead (λ c. not (p c)) (drop l.from l.s)
