-- What a turn leaves and says, by what the line asks. Assumes nothing.
use Rattle.std.proofs.Common.{◌≡◌, ℕ, Bool, List, take, Ok, sym, refl, ap, ◌∙◌, subst}
use Rattle.print.specs.Line.{Lent, laid}
use Rattle.rack.specs.Facts.{RackFine}
use Rattle.script.specs.declared.lines.Action.TheVariants as act
use Rattle.script.specs.Commands.{Answer}
use Rattle.script.specs.Lines.{Effect, effect, effect_of}
use Rattle.text.specs.declared.lines.Reached.{Reached}
use Rattle.text.specs.declared.lines.Reached.TheVariants.{Line}
use Rattle.play.specs.Told.{Played}
use Rattle.play.specs.Turns.{rack_by, DrawsBy, text_by, Turned}

-- from what `action_of` tells of an action, draws and bytes
module _ (line draws bytes tags : List ℕ) {action : Answer} {d b : List ℕ}
    (h : action ≡ (effect_of line draws bytes).action) (i : d ≡ (effect_of line draws bytes).draws) (j : b ≡ (effect_of line draws bytes).bytes)
    (quiet : Bool) (n from to : ℕ) {out out₁ : Lent} where
  pub line_turned : (x : Answer) {tags₁ draws₁ : List ℕ} → action ≡ x → tags₁ ≡ rack_by x d b tags → RackFine tags₁ → DrawsBy x d draws₁
      → out₁ ≡ laid out (text_by x quiet n d b tags draws₁) → Turned quiet n (Line from to) line tags draws bytes out tags₁ draws₁ b out₁
  line_turned x {tags₁} {draws₁} g f ok k p =
      let y = effect_of line draws bytes in
      let whole : effect x d b ≡ y = rw (sym g ∙ h, i, j) refl in
      record {
        leaves =
            record {
              rack = subst (λ (z : Effect). tags₁ ≡ rack_by z.action z.draws z.bytes tags) whole f;
              drawn = subst (λ (z : Effect). DrawsBy z.action z.draws draws₁) whole k;
              read = j;
            };
        fine = ok;
        text = p ∙ ap (λ (z : Effect). laid out (text_by z.action quiet n z.draws z.bytes tags draws₁)) whole;
      }

  -- an event takes the first m bytes
  pub event_turned : (number m : ℕ) {tags₁ : List ℕ} → action ≡ Ok (act.Play number m) → Played quiet n number (take m b) d tags out tags₁ out₁
      → Turned quiet n (Line from to) line tags draws bytes out tags₁ d b out₁
  event_turned number m g p = line_turned (Ok (act.Play number m)) g p.rack p.fine refl p.text

-- the places of a line do not matter to what it leaves
pub turned_at : {quiet : Bool} {n from to : ℕ} (reached : Reached) {line tags draws bytes tags₁ draws₁ bytes₁ : List ℕ} {out out₁ : Lent} → reached ≡ Line from to
    → Turned quiet n (Line 0 0) line tags draws bytes out tags₁ draws₁ bytes₁ out₁ → Turned quiet n reached line tags draws bytes out tags₁ draws₁ bytes₁ out₁
turned_at reached e t =
    rw e (record { leaves = record { rack = t.leaves.rack; drawn = t.leaves.drawn; read = t.leaves.read }; fine = t.fine; text = t.text })
