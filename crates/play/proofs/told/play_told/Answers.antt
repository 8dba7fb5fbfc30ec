-- The event's own statement, at the draws that the rack takes; the rack as it was stands in its line. Assumes nothing.
use Rattle.std.proofs.Common.{◌≡◌, ◌≤◌, ◌∙◌, sym, refl, ap, rules, length}
use Rattle.print.specs.Line.{Lent}
use lib.Seq.{length-take-le}
use Rattle.print.proofs.Lent.{line_loan}
use Rattle.rack.specs.Facts.{RackFine}
use Rattle.event.specs.Event.{least}
use Rattle.script.proofs.LinesDraws.{few_inside}
use Rattle.play.proofs.ToldLeft.{kept, fine_left, unchanged_left, played_told}
use Rattle.play.proofs.told.play_told.Goals as goal

pub slice_bounds-few-end : goal.slice_bounds-few-end
slice_bounds-few-end c = sym (length-take-le _ _ (few_inside _ _ _ c.draws_for.ensures))

pub of-requires : goal.of-requires
of-requires c =
    let a = c.args in
    let stood = rw c.new-before.ensures at c.put.ensures in
    let was : c.text.result.now ≡ a.tags.now = c.text.ensures ∙ ap (λ (l : Lent). l.text) stood ∙ kept _ a.tags.now refl (search rules) c.requires in
    rw was c.requires

pub of-requires-2 : goal.of-requires-2
of-requires-2 c =
    let a = c.args in
    let e = c.draws_for.ensures in
    let room : least ≤ length a.desk.now.answer = search rules in
    let fine : RackFine c.event_on-report.new.rack = fine_left _ _ _ _ _ e room c.event_on-report.ensures c.requires (λ i. (c.slice_known-1.given i).fits)
    (λ i. (c.shared_slice_known-1.given i).fits) (λ i. (c.shared_slice_known-2-1.given i).fits) in
    fine

pub put_told-requires : goal.put_told-requires
put_told-requires c =
    let a = c.args in
    let e = c.draws_for.ensures in
    let room : least ≤ length a.desk.now.answer = search rules in
    let stood = rw c.new-before.ensures at c.put.ensures in
    let was : c.text.result.now ≡ a.tags.now = c.text.ensures ∙ ap (λ (l : Lent). l.text) stood ∙ kept _ a.tags.now refl (search rules) c.requires in
    rw (c.hear.ensures, c.of-2.ensures)
    (unchanged_left a.tags.now a.frame.now a.draws.now a.number _ e room c.event_on-report.ensures c.requires c.of.result (c.of.ensures ∙ was))

pub returns : goal.returns
returns c =
    let a = c.args in
    let e = c.draws_for.ensures in
    let room : least ≤ length a.desk.now.answer = search rules in
    let stood = rw c.new-before.ensures at c.put.ensures in
    let was : c.text.result.now ≡ a.tags.now = c.text.ensures ∙ ap (λ (l : Lent). l.text) stood ∙ kept _ a.tags.now refl (search rules) c.requires in
    let fine : RackFine c.event_on-report.new.rack = fine_left _ _ _ _ _ e room c.event_on-report.ensures c.requires (λ i. (c.slice_known-1.given i).fits)
    (λ i. (c.shared_slice_known-1.given i).fits) (λ i. (c.shared_slice_known-2-1.given i).fits) in
    let told = rw c.of-2.ensures at c.put_told.ensures in
    played_told a.tags.now a.frame.now a.draws.now a.number _ e room c.event_on-report.ensures a.n fine (c.of.ensures ∙ was) told

pub shape_of-desk : goal.shape_of-desk
shape_of-desk c = let m = rw c.new-before.ensures at c.put.ensures in line_loan _ _ _ m
