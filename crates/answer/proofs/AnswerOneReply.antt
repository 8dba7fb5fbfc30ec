-- One reply: what `read_answer` ensures says what it is, so two replies that satisfy it are equal.
-- Assumes nothing.
use mathlib.Core.Path.{◌≡◌, sym, ◌∙◌}
use mathlib.Core.List.{List}
use Prim.Native.Nat.{ℕ}
use Rattle.reader.specs.declared.command.Command.{Command}
use Rattle.answer.specs.declared.reading.Reading.{Reading}
use Rattle.answer.specs.Answer.{reading_of}

pub one_reading : (c : Command) (uid : List ℕ) (n : ℕ) (f : List ℕ) (r s : Reading) → r ≡ reading_of c uid n f → s ≡ reading_of c uid n f → r ≡ s
one_reading c uid n f r s p q = p ∙ sym q
