-- The tags that answer, told one behind the other. Assumes nothing.
use mathlib.Core.Path.{◌≡◌, refl, ap, sym, ◌∙◌}
use mathlib.Core.Bool.{Bool, true, false, ◌||◌}
use mathlib.Core.List.{List}
use Prim.Native.Nat.{ℕ, ◌+◌}
use Rattle.frame.proofs.Bools.{or_right}
use Rattle.frame.specs.Choose.{gather}
use Rattle.print.specs.Line.{Lent, laid}
use Rattle.rack.specs.File.{kind_at}
use Rattle.rack.specs.Facts.{body_of}
use Rattle.rack.specs.Tag.{Event}
use Rattle.trace.specs.Question.{some}
use Rattle.trace.specs.Owners.{answers_at, owner_text, owner_at}
use Rattle.trace.proofs.QuestionTags.{some_more}
use Rattle.trace.proofs.ChangeLaid.{gathered_on, gathered_past}

-- the tags before i are told, and `more` says whether one of them answered
pub record Owning (event : Event) (ds r : List ℕ) (line new : Lent) (i : ℕ) (more : Bool) : Type 0 where
  pub laid_so : new ≡ laid line (gather i (owner_at event ds r))
  pub before : more ≡ some i (answers_at event ds r)

or_no : (t : Bool) → (t || false) ≡ t
or_no true = refl
or_no false = refl

module _ {event : Event} {ds r : List ℕ} (line : Lent) (i : ℕ) {more : Bool} {new : Lent} (o : Owning event ds r line new i more)
    {t : Bool} (e : t ≡ answers_at event ds r i) where
  pub owning_on : t ≡ true → {fin : Lent} → fin ≡ laid new (owner_text more (kind_at r i) (body_of r i)) → Owning event ds r line fin (i + 1) true
  owning_on y g =
      let a : answers_at event ds r i ≡ true = sym e ∙ y in
      let same : owner_text more (kind_at r i) (body_of r i) ≡ owner_at event ds r i =
      rw a (ap (λ (m : Bool). owner_text m (kind_at r i) (body_of r i)) o.before) in
      record {
        laid_so = gathered_on line (owner_at event ds r) i o.laid_so (g ∙ ap (laid new) same);
        before = sym (some_more (answers_at event ds r) i ∙ or_right (some i (answers_at event ds r)) (answers_at event ds r i) a);
      }

  pub owning_past : t ≡ false → Owning event ds r line new (i + 1) more
  owning_past y =
      let a : answers_at event ds r i ≡ false = sym e ∙ y in
      record {
        laid_so = gathered_past line (owner_at event ds r) i o.laid_so (rw a refl);
        before =
            o.before ∙ sym (some_more (answers_at event ds r) i ∙ ap (λ (b : Bool). some i (answers_at event ds r) || b) a ∙ or_no (some i (answers_at event ds r)));
      }
