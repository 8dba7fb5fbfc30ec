-- A reading as numbers: what was said of a command is said of the numbers that name it. Assumes nothing.
use mathlib.Core.Path.{◌≡◌}
use mathlib.Core.List.{List}
use Prim.Native.Nat.{ℕ}
use Rattle.frame.specs.Number.{num}
use Rattle.reader.specs.declared.command.Command.{Command}
use Rattle.answer.specs.declared.reading.Reading.{Reading}
use Rattle.answer.specs.Answer.{reading_of}
use Rattle.face.specs.declared.told.Told.{Told}
use Rattle.face.specs.Told.{told_as, told_of}

pub told_way : (r : Told) (x : Reading) (c k : Command) (uid v : List ℕ) (n u : ℕ) (s : List ℕ) → c ≡ k → uid ≡ v → x ≡ reading_of c uid n s
    → u ≡ num x.uid → r ≡ told_as x.meaning u → r ≡ told_of (reading_of k v n s)
unfolding told_of
told_way r x c k uid v n u s e i h w g = rw (← e, ← i, ← h, ← w) g
