-- An entry and the head, as they are put together byte by byte. Assumes nothing.
use Rattle.std.proofs.Common.{◌≡◌, ℕ, ◌-◌, List, [], ◌∷◌, set, replicate}
use lib.Seq.{sets}
use Rattle.frame.specs.Number.{bytes_of}
use Rattle.rack.specs.declared.tag.Kind.{Kind}
use Rattle.make.specs.declared.lines.Maker.{Maker}
use Rattle.make.specs.Tags.{entry_place, kind_byte, with_entry, closed_out}
use Rattle.make.specs.Made.{laid_out}

pub entry_laid : (count : ℕ) (kind : Kind) (len at : ℕ) (old : List ℕ) {e f new : List ℕ} {i p : ℕ} → e ≡ sets (set (replicate 8 0) 0 (kind_byte kind)) 2 (bytes_of 2 len)
    → f ≡ sets e 4 (bytes_of 4 at) → i ≡ count - 1 → p ≡ entry_place i → new ≡ sets old p f → new ≡ with_entry count kind len at old
unfolding with_entry
entry_laid count kind len at old a b c d e = rw (e, b, a, d, c)

pub head_laid : (m : Maker) (b old : List ℕ) {head mid new : List ℕ} → head ≡ sets (1 ∷ 0 ∷ []) 1 (bytes_of 1 m.count) → mid ≡ closed_out m b old
    → new ≡ sets mid 0 head → new ≡ laid_out m b old
unfolding laid_out
head_laid m b old a c e = rw (e, a, c)
