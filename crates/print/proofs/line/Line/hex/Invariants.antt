-- The bytes so far are laid. Assumes nothing.
use Rattle.std.proofs.Common.{◌≡◌, take}
use Rattle.print.specs.Line.{laid}
use Rattle.print.specs.Seen.{seen}
use Rattle.print.specs.Hex.{hex_text}
use Rattle.print.proofs.line.Line.hex.Given as goal

abbrev pub invariant-loop-b : goal.invariant-loop-b
invariant-loop-b l = seen l.self ≡ laid (seen l.initial.self) (hex_text (take l.b-index l.s))
