-- A reading that is no refusal: its command has a request, its frame is right, and the test that led to it held.
-- Assumes nothing.
use Rattle.std.specs.Prelude.{if◌then◌else◌}
use mathlib.Core.Path.{◌≡◌, refl, ap, ◌∙◌}
use mathlib.Core.Bool.{Bool, true, false, not, ◌&&◌}
use mathlib.Core.List.{List}
use Prim.Native.Nat.{ℕ}
use native.Mathlib.Omega.{arith}
use lib.Dec.{ltb}
use lib.ListN.{length}
use Rattle.frame.specs.Number.{Bytes}
use Rattle.frame.specs.CheckSum.{right, content, framed}
use Rattle.frame.proofs.Bools.{and_both}
use Rattle.frame.proofs.CheckSumFrames.{right_framed}
use Rattle.reader.specs.declared.command.Command.{Command}
use Rattle.reader.specs.Command.{valid}
use Rattle.answer.specs.declared.reading.Meaning.TheVariants as m
use Rattle.answer.specs.declared.reading.Reading.{Reading}
use Rattle.answer.specs.Answer.{number_of, said, fits, shape_of, reading_of}

-- a success or an error
abbrev pub NoRefusal : Reading → Type 0
NoRefusal r = number_of r.meaning ≡ 0

pub as_read : (r s : Reading) → r ≡ s → NoRefusal s → NoRefusal r
as_read r s e h = ap (λ (x : Reading). number_of x.meaning) e ∙ h

pub fits_true : (x : Bool) (r : Reading) → NoRefusal (fits x r) → x ≡ true
fits_true true r h = refl
fits_true false r h = absurd (omega arith)

-- .. both of two tests
pub fits_both : (x y : Bool) (r : Reading) → NoRefusal (fits (x && y) r) → (x ≡ true) × (y ≡ true)
fits_both x y r h = and_both x y (fits_true (x && y) r h)

-- what holds of a refusal and of the reading holds where the test decides
pub fits_either : (P : Reading → Type 0) (x : Bool) (r : Reading) → P (said (m.Refused 9)) → P r → P (fits x r)
fits_either P true r h z = z
fits_either P false r h z = h

pub record Right (x : Command) (uid : List ℕ) (n : ℕ) (f : List ℕ) : Type 0 where
  pub fields : valid x n ≡ true
  pub frame : f ≡ framed (content f)
  pub shape : reading_of x uid n f ≡ shape_of x uid (content f)

pub told_right : (x : Command) (uid : List ℕ) (n : ℕ) (f : List ℕ) → Bytes f → NoRefusal (reading_of x uid n f) → Right x uid n f
unfolding reading_of
told_right x uid n f bs h = go (valid x n) (ltb (length f) 3) (right f) refl refl refl h
  where
    go : (p q r : Bool) → valid x n ≡ p → ltb (length f) 3 ≡ q → right f ≡ r
        → NoRefusal (if not p then said (m.Refused 7) else if q then said (m.Refused 8) else if not r then said (m.Refused 8) else shape_of x uid (content f))
        → Right x uid n f
    go false q r e g i z = absurd (omega arith)
    go true true r e g i z = absurd (omega arith)
    go true false false e g i z = absurd (omega arith)
    go true false true e g i z = record { fields = e; frame = right_framed 0xFFFF true f bs i; shape = rw (e, g, i) }
