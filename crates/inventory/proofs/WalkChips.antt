-- The two calls of a walk on a chip: it ignores them. Assumes nothing.
use mathlib.Core.Path.{◌≡◌}
use mathlib.Core.List.{List}
use Prim.Native.Nat.{ℕ}
use Rattle.request.specs.declared.chip.Order.TheVariants.{Ignored}
use Rattle.chip.specs.declared.step.Answer.TheVariants as chip
use Rattle.chip_body.specs.Body.{next_chip, said_chip}
use Rattle.chip_body.proofs.Floor.{unasked}

pub ignored : (d : ℕ) (b : List ℕ) → next_chip Ignored d b ≡ b
ignored d b = (unasked d b).1

pub ignored_said : (d : ℕ) (b : List ℕ) → said_chip Ignored d b ≡ chip.Silent
ignored_said d b = (unasked d b).0
