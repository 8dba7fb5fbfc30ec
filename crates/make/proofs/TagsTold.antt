-- A step along the fields of a line. Assumes nothing.
use Rattle.std.proofs.Common.{◌≡◌, ℕ, suc, ◌+◌, ◌-◌, ◌<◌, ◌≤◌, Bool, true, false, ◌||◌, List, length, ap, ◌∙◌, arith, Result, Ok, Err}
use Rattle.verbs.specs.declared.tokens.Span.{Span}
use Rattle.verbs.specs.Tokens.{is_empty, word_from}
use Rattle.draft.specs.declared.words.Why.{Why}
use Rattle.draft.specs.declared.labels.Reached.{Reached}
use Rattle.draft.specs.Bodies.{Drafts}
use Rattle.make.specs.declared.lines.Tag.{Tag}
use Rattle.make.specs.Tags.{FieldsTold, fields_told, Tells, field_of, fields_from}

tells_by : {x : FieldsTold} {r : Result Bool Why} {b : List ℕ} → fields_told r b ≡ x → Tells x r b
tells_by e = record { tells = ap (λ (y : FieldsTold). y.fields) e; leaves = ap (λ (y : FieldsTold). y.body) e }

module _ (t : Tag) (line : List ℕ) (at : ℕ) (sized : Bool) (b : List ℕ) (n : ℕ) (x : FieldsTold)
    (inv : fields_from (length line - n) t line at sized b ≡ x) where
  pub fields_spent : length line ≤ n → Tells x (Ok sized) b
  unfolding fields_from
  fields_spent h = let z : length line - n ≡ 0 = omega arith in tells_by (rw z at inv)

  module _ (h : n < length line) {w : Span} (e : w ≡ word_from line at) {empty : Bool} (f : empty ≡ is_empty w) where
    one : fields_from (suc (length line - (n + 1))) t line at sized b ≡ x
    one = let z : suc (length line - (n + 1)) ≡ length line - n = omega arith in ap (λ (k : ℕ). fields_from k t line at sized b) z ∙ inv

    pub fields_none : empty ≡ true → Tells x (Ok sized) b
    unfolding fields_from
    fields_none g = tells_by (rw (← e, ← f, g) at one)

    module _ (g : empty ≡ false) {r : Result Reached Why} {new : List ℕ} (d : Drafts (field_of t line w b) r new) where
      pub fields_on : {y : Reached} {to : ℕ} {also : Bool} → r ≡ Ok y → to ≡ y.to → also ≡ (sized || y.sized)
          → fields_from (length line - (n + 1)) t line to also new ≡ x
      unfolding fields_from
      fields_on k p q = rw (d.leaves, p, q) (rw (← e, ← f, g, ← d.tells, k) at one)

      pub fields_wrong : {why : Why} → r ≡ Err why → Tells x (Err why) new
      unfolding fields_from
      fields_wrong k = tells_by (rw d.leaves (rw (← e, ← f, g, ← d.tells, k) at one))
