-- The sets that close a `return` at the end of a ladder of tests. Assumes nothing.
use Rattle.std.specs.Prelude.{if◌then◌else◌}
use mathlib.Core.Path.{◌≡◌, refl, sym, ◌∙◌}
use mathlib.Core.Bool.{Bool, true, false}
use borrow.Author.Rules.{rules}
use borrow.Author.Tests.{lt-ltb, le-ltb, le-leb, lt-leb, eq-eqb, ne_eqb}

-- tests on numbers: each test's value comes from the fact that led there
pub ruleset tests = (rules, lt-ltb, le-ltb, le-leb, lt-leb, eq-eqb, ne_eqb)

-- tests that calls have answered: this one holds; or it does not, and what follows says the same
pub rung_here : {A : Type 0} (r t : Bool) (x y : A) → r ≡ t → r ≡ true → x ≡ (if t then x else y)
rung_here r t x y e h = rw (sym e ∙ h) refl

pub rung_on : {A : Type 0} (r t : Bool) (x y z : A) → r ≡ t → r ≡ false → z ≡ y → z ≡ (if t then x else y)
rung_on r t x y z e h k = rw (sym e ∙ h) k

pub ruleset ladder = (rules, rung_here, rung_on)
