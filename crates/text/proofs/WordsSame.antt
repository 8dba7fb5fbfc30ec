-- Words compared by pairs of letters. Assumes nothing.
use Rattle.std.proofs.Common.{◌≡◌, refl, ap, sym, ℕ, suc, Bool, false, ◌&&◌, List, [], ◌∷◌, length, eqb, arith}
use Rattle.std.specs.List.{list_all, zip}
use Rattle.frame.proofs.Bools.{off_and}
use Rattle.text.specs.Words.{lowered, same_word}

-- words of two lengths are not the same
pub other_length : (a b : List ℕ) → (length a ≡ length b → ⊥) → false ≡ same_word a b
other_length [] [] h = absurd (h refl)
other_length [] (y ∷ b) h = refl
other_length (x ∷ a) [] h = refl
other_length (x ∷ a) (y ∷ b) h = sym (off_and (eqb (lowered x) y) (same_word a b) (λ t. sym (other_length a b (λ e. h (ap suc e)))))

pub same_zip : (a b : List ℕ) → length a ≡ length b → list_all (λ (p : ℕ × ℕ). eqb (lowered p.0) p.1) (zip a b) ≡ same_word a b
same_zip [] [] e = refl
same_zip [] (y ∷ b) e = absurd (omega arith)
same_zip (x ∷ a) [] e = absurd (omega arith)
same_zip (x ∷ a) (y ∷ b) e = ap (λ (t : Bool). eqb (lowered x) y && t) (same_zip a b (omega arith))
