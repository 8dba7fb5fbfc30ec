-- The bytes so far are laid. Assumes nothing.
use Rattle.std.proofs.Common.{◌≡◌, map, ℕ}
use denote.Bor.{Bor}
use Rattle.print.specs.Line.{laid}
use Rattle.print.specs.Seen.{seen}
use Rattle.print.specs.Hex.{pairs_text}
use Rattle.print.proofs.line.Line.back.Given as goal

abbrev pub invariant-loop-b : goal.invariant-loop-b
invariant-loop-b l = seen l.self ≡ laid (seen l.initial.self) (pairs_text (map (λ (b : Bor ℕ). b.now) l.yielded))
