-- Two ways out of `ends_in_slot`, and what a byte names as a kind. Assumes nothing.
use mathlib.Core.Path.{◌≡◌}
use mathlib.Core.Bool.{Bool, true, false}
use mathlib.Core.List.{List}
use Prim.Native.Nat.{ℕ, ◌/◌, ◌%◌, ◌^◌}
use lib.Dec.{eqb}
use borrow.Author.Tests.{ne_eqb}
use Rattle.frame.specs.Number.{num}
use Rattle.frame.specs.Ending.{ends_in, ends_in_slot}
use Rattle.rack.specs.File.{kind_of}
use Rattle.rack.specs.declared.tag.Kind.TheVariants.{Label, Chip, Other}

pub slot_yes : (u : List ℕ) (mask bits slot : ℕ) {t : Bool} {n h s : ℕ} → t ≡ ends_in u mask bits → t ≡ true → n ≡ num u → h ≡ n / 2 ^ bits → s ≡ slot
    → eqb (h % 16) s ≡ ends_in_slot u mask bits slot
unfolding ends_in_slot
slot_yes u mask bits slot e y a b d = rw (b, a, d, ← e, y)

pub slot_no : (u : List ℕ) (mask bits slot : ℕ) {t : Bool} → t ≡ ends_in u mask bits → t ≡ false → false ≡ ends_in_slot u mask bits slot
unfolding ends_in_slot
slot_no u mask bits slot e y = rw (← e, y)

pub kind_label : (n : ℕ) → n ≡ 1 → kind_of n ≡ Label
unfolding kind_of
kind_label n e = rw e

pub kind_chip : (n : ℕ) → n ≡ 2 → kind_of n ≡ Chip
unfolding kind_of
kind_chip n e = rw e

pub kind_other : (n : ℕ) → (n ≡ 1 → ⊥) → (n ≡ 2 → ⊥) → kind_of n ≡ Other
unfolding kind_of
kind_other n f g = rw (ne_eqb n 1 f, ne_eqb n 2 g)
