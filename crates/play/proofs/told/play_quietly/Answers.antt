-- The event's own statement, at the draws that the rack takes. Assumes nothing.
use Rattle.std.proofs.Common.{◌≤◌, sym, rules, length}
use lib.Seq.{length-take-le}
use Rattle.event.specs.Event.{least}
use Rattle.script.proofs.LinesDraws.{few_inside}
use Rattle.play.proofs.ToldLeft.{fine_left, played_quietly}
use Rattle.play.proofs.told.play_quietly.Goals as goal

pub slice_bounds-few-end : goal.slice_bounds-few-end
slice_bounds-few-end c = sym (length-take-le _ _ (few_inside _ _ _ c.draws_for.ensures))

pub returns : goal.returns
returns c =
    let a = c.args in
    let e = c.draws_for.ensures in
    let room : least ≤ length a.desk.now.answer = search rules in
    let f =
    fine_left _ _ _ _ _ e room c.event_on-report.ensures c.requires (λ i. (c.slice_known-1.given i).fits) (λ i. (c.shared_slice_known-1.given i).fits)
    (λ i. (c.shared_slice_known-2-1.given i).fits) in
    played_quietly a.tags.now a.frame.now a.draws.now a.number _ e room c.event_on-report.ensures a.n f c.put_quiet.ensures
