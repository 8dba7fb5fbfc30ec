-- A list of UIDs as bytes, eight a UID. Idea: `flat` goes over `++` and `gather`. Assumes nothing.
use mathlib.Core.Path.{◌≡◌, refl, sym, ◌∙◌}
use mathlib.Core.List.{List, [], ◌∷◌, ◌++◌, append_assoc, append-nil}
use Prim.Native.Nat.{ℕ, zero, suc, ◌*◌}
use native.Mathlib.Omega.{arith}
use lib.ListN.{length, length-append}
use Rattle.frame.specs.Choose.{gather}
use Rattle.frame.specs.Number.{bytes_of}
use Rattle.frame.proofs.Numbers.{length_bytes}
use Rattle.inventory.specs.Promise.{flat}

pub flat_append : (a b : List ℕ) → flat (a ++ b) ≡ flat a ++ flat b
unfolding flat
flat_append [] b = refl
flat_append (u ∷ a) b = rw (flat_append a b) (sym (append_assoc (bytes_of 8 u) (flat a) (flat b)))

pub flat_one : (u : ℕ) → flat (u ∷ []) ≡ bytes_of 8 u
unfolding flat
flat_one u = append-nil (bytes_of 8 u)

pub flat_none : flat [] ≡ []
unfolding flat
flat_none = refl

pub flat_length : (us : List ℕ) → length (flat us) ≡ 8 * length us
unfolding flat
flat_length [] = refl
flat_length (u ∷ us) = length-append (bytes_of 8 u) (flat us) ∙ omega (arith, length_bytes 8 u, flat_length us)

pub flat_gather : (n : ℕ) (f : ℕ → List ℕ) → gather n (λ s. flat (f s)) ≡ flat (gather n f)
unfolding gather
flat_gather zero f = sym flat_none
flat_gather (suc n) f = rw (flat_gather n f) (sym (flat_append (gather n f) (f n)))
