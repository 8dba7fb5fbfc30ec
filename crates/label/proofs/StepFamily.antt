-- ISO/IEC 15693-3, table 1, by rows: 00, a byte with low half 0, any other byte. Assumes nothing.
use mathlib.Core.Path.{◌≡◌, refl, ap, sym}
use mathlib.Core.Bool.{Bool, true, false, ◌||◌}
use Prim.Native.Nat.{ℕ, ◌/◌, ◌%◌}
use lib.Dec.{eqb}
use borrow.Author.Tests.{eq-eqb, ne_eqb, eqb-false}
use Rattle.request.specs.declared.label.Family.TheVariants.{Only}
use Rattle.label.specs.Step.{passes}

-- 00 asks for all
pub all_asked : (afi : ℕ) → true ≡ passes (Only 0) afi
unfolding passes
all_asked afi = refl

-- a byte with low half 0 asks for every subfamily of that high half, itself among them, and for no other
pub half_asked : (f afi : ℕ) → (f ≡ 0 → ⊥) → f % 16 ≡ 0 → eqb (f / 16) (afi / 16) ≡ passes (Only f) afi
unfolding passes
half_asked f afi h e = rw (ne_eqb f 0 h, eq-eqb (f % 16) 0 e) (go (eqb (f / 16) (afi / 16)) refl)
  where
    go : (t : Bool) → eqb (f / 16) (afi / 16) ≡ t → t ≡ (t || eqb f afi)
    go true q = refl
    go false q = sym (ne_eqb f afi (λ x. eqb-false (f / 16) (afi / 16) q (ap (λ (n : ℕ). n / 16) x)))

-- any other byte asks for that one only
pub one_asked : (f afi : ℕ) → (f % 16 ≡ 0 → ⊥) → eqb f afi ≡ passes (Only f) afi
unfolding passes
one_asked f afi h = rw (ne_eqb f 0 (λ q. h (ap (λ (n : ℕ). n % 16) q)), ne_eqb (f % 16) 0 h) refl
