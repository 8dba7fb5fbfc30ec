-- One reply for what C hands over: each exported call ensures what its reply is. Event, walk and request writer are those of the crates below, at the
-- family and command that the numbers name, and so are their laws; the calls here have replies of their own.
-- Assumes nothing.
use mathlib.Core.Path.{◌≡◌, sym, ◌∙◌}
use mathlib.Core.List.{List}
use Prim.Native.Nat.{ℕ}
use lib.ListN.{length}
use Rattle.frame.specs.CheckSum.{crc_of}
use Rattle.answer.specs.Answer.{reading_of}
use Rattle.face.specs.declared.fields.Fields.{Fields}
use Rattle.face.specs.declared.told.Told.{Told}
use Rattle.face.specs.Fields.{uid_of, command_for}
use Rattle.face.specs.Told.{told_of}
use Rattle.station.specs.Version.{version}

-- sackbutflare_read_answer
pub one_told : (f : Fields) (uid : List ℕ) (n : ℕ) (frame : List ℕ) (r s : Told)
    → r ≡ told_of (reading_of (command_for f (length uid)) (uid_of uid) n frame)
    → s ≡ told_of (reading_of (command_for f (length uid)) (uid_of uid) n frame) → r ≡ s
one_told f uid n frame r s p q = p ∙ sym q

-- sackbutflare_check_sum
pub one_sum : (bytes : List ℕ) (r s : ℕ) → r ≡ crc_of bytes → s ≡ crc_of bytes → r ≡ s
one_sum bytes r s p q = p ∙ sym q

-- sackbutflare_version
pub one_version : (r s : ℕ) → r ≡ version → s ≡ version → r ≡ s
one_version r s p q = p ∙ sym q
