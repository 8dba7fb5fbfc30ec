-- One reply, one content of the buffer: what `write_request` ensures says what both are, so two replies that satisfy it are equal.
-- Assumes nothing.
use mathlib.Core.Path.{◌≡◌, sym, ◌∙◌}
use mathlib.Core.List.{List}
use Prim.Native.Nat.{ℕ}
use Rattle.reader.specs.declared.command.Command.{Command}
use Rattle.reader.specs.declared.writer.Written.{Written}
use Rattle.reader.specs.Request.{Wrote}

-- r and s two replies, x and y two contents of the buffer then
pub one_writing : (c : Command) (uid d out : List ℕ) (r s : Written) (x y : List ℕ) → Wrote c uid d out r x → Wrote c uid d out s y → (r ≡ s) × (x ≡ y)
one_writing c uid d out r s x y p q = (p.report ∙ sym q.report, p.left ∙ sym q.left)
