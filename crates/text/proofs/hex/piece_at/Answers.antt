-- Each way out is a law of RunsPieces. Assumes nothing.
use Rattle.std.proofs.Common.{ℕ, ◌≡◌, refl, sym, ◌∙◌}
use borrow.Author.Tests.{le-leb, lt-leb}
use Rattle.std.specs.Prelude.{Option, None, Some}
use Rattle.frame.proofs.Bools.{if_true, if_false}
use Rattle.text.specs.Runs.{second_digit}
use Rattle.text.specs.RunsPlaces.{piece_at}
use Rattle.text.proofs.RunsPieces.{piece_none, piece_other, piece_tight, piece_alone, piece_gap, piece_second}
use Rattle.text.proofs.hex.piece_at.Goals as goal
use Rattle.text.proofs.hex.piece_at.Goals.{After-value-2, else-s-at-eq35-via-then-s-at-eq35+else-blank_before, else-s-at-eq35-via-else-s-at-eq35}
use Rattle.text.proofs.hex.piece_at.Goals.{then-s-at-lt2-via-then-s-at-lt2, then-s-at-lt2-via-else-s-at-lt2+then-is_gap}

pub returns-then-blank_before : goal.returns-then-blank_before
returns-then-blank_before c =
    let a = c.args in
    piece_none a.s.now a.at a.n a.room _ c.value.ensures.value c.in_default.is _ refl c.if-s-at-eq35.true _ c.blank_before.ensures c.if-blank_before.true

pub returns-in_default : goal.returns-in_default
returns-in_default c =
    let a = c.args in
    elim c.else-s-at-eq35.branch [
      | else-s-at-eq35-via-then-s-at-eq35+else-blank_before w ↦
          piece_tight a.s.now a.at a.n a.room _ c.value.ensures.value c.in_default.is _ w.blank_before.ensures w.if-blank_before.false
      | else-s-at-eq35-via-else-s-at-eq35 w ↦ piece_other a.s.now a.at a.n a.room _ c.value.ensures.value c.in_default.is _ refl w.if-s-at-eq35.false
    ]

pub returns-then-s-at-lt2 : goal.returns-then-s-at-lt2
returns-then-s-at-lt2 c =
    let a = c.args in
    elim c.then-s-at-lt2.branch [
      | then-s-at-lt2-via-then-s-at-lt2 w ↦ piece_alone a.s.now a.at a.n a.room _ c.value.ensures.value _ c.in-Some.is w.if-s-at-lt2.true
      | then-s-at-lt2-via-else-s-at-lt2+then-is_gap w ↦
          piece_gap a.s.now a.at a.n a.room _ c.value.ensures.value _ c.in-Some.is w.if-s-at-lt2.false (sym w.is_gap.ensures ∙ w.if-is_gap.true)
    ]

-- once the second digit's value is known, it decides
second : (c : After-value-2) (x : Option ℕ) → c.value-2.result ≡ x
    → let a = c.args in piece_at a.s.now a.at a.n a.room ≡ second_digit a.room a.n a.at c.in-Some.high x
second c x =
    let a = c.args in
    piece_second a.s.now a.at a.n a.room _ c.value.ensures.value _ c.in-Some.is c.if-s-at-lt2.false (sym c.is_gap.ensures ∙ c.if-is_gap.false) _
    c.value-2.ensures.value x

pub returns-in_default-value : goal.returns-in_default-value
returns-in_default-value c = sym (second (goal.at.returns-in_default-value c).After-value-2 None c.in_default-value.is)

pub returns-then-room-n : goal.returns-then-room-n
returns-then-room-n c =
    sym (second (goal.at.returns-then-room-n c).After-value-2 (Some _) c.in-Some-value.is ∙ if_true _ _ _ (le-leb _ _ c.if-room-n.true))

pub returns : goal.returns
returns c = sym (second (goal.at.returns c).After-value-2 (Some _) c.in-Some-value.is ∙ if_false _ _ _ (lt-leb _ _ c.if-room-n.false))
