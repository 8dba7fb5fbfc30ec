-- The bytes of a line are within the buffer that they were read to; what the line asks says what it leaves. Assumes nothing.
use Rattle.std.proofs.Common.{◌≤◌, length, refl, sym, ap, ◌∙◌, Ok, Err}
use lib.Seq.{length-take-le}
use Rattle.print.proofs.Lines.{laid_none}
use Rattle.script.specs.declared.lines.Action.TheVariants as act
use Rattle.script.proofs.LinesInside.{frame_inside}
use Rattle.play.proofs.TurnsLeft.{line_turned, event_turned}
use Rattle.play.proofs.turns.play_line.Goals as goal

pub slice_bounds-play_event-end : goal.slice_bounds-play_event-end
slice_bounds-play_event-end c =
    let a = c.args in
    let x = c.action_of.ensures in
    frame_inside a.line.now a.draws.now a.bytes.now _ _ _ _ x.value x.bytes_after (c.in-Ok-Play.is ∙ ap Ok c.in-Ok-Play.field-0-is)

pub slice_bounds-play_event-end-in-Ok-Play : goal.slice_bounds-play_event-end-in-Ok-Play
slice_bounds-play_event-end-in-Ok-Play c =
    let a = c.args in
    let x = c.action_of.ensures in
    let here : c.in-Ok-Play.len ≤ length c.action_of.new.bytes = frame_inside a.line.now a.draws.now a.bytes.now _ _ _ _ x.value x.bytes_after
    (c.in-Ok-Play.is ∙ ap Ok c.in-Ok-Play.field-0-is) in
    sym (length-take-le _ _ here)

pub returns-in-Ok-Nothing : goal.returns-in-Ok-Nothing
returns-in-Ok-Nothing c =
    let a = c.args in
    let x = c.action_of.ensures in
    line_turned a.line.now a.draws.now a.bytes.now a.tags.now x.value x.draws_after x.bytes_after a.quiet a.n 0 0
    (Ok act.Nothing) (c.in-Ok-Nothing.is ∙ ap Ok c.in-Ok-Nothing.field-0-is) refl c.requires refl (sym (laid_none _))

pub returns-in-Ok-Play : goal.returns-in-Ok-Play
returns-in-Ok-Play c =
    let a = c.args in
    let x = c.action_of.ensures in
    event_turned a.line.now a.draws.now a.bytes.now a.tags.now x.value x.draws_after x.bytes_after a.quiet a.n 0 0 _ _
    (c.in-Ok-Play.is ∙ ap Ok c.in-Ok-Play.field-0-is) c.play_event.ensures

pub returns-in-Ok-Random : goal.returns-in-Ok-Random
returns-in-Ok-Random c =
    let a = c.args in
    let x = c.action_of.ensures in
    line_turned a.line.now a.draws.now a.bytes.now a.tags.now x.value x.draws_after x.bytes_after a.quiet a.n 0 0
    (Ok act.Random) (c.in-Ok-Random.is ∙ ap Ok c.in-Ok-Random.field-0-is) refl c.requires tt c.put_draws.ensures

pub returns-in-Err : goal.returns-in-Err
returns-in-Err c =
    let a = c.args in
    let x = c.action_of.ensures in
    line_turned a.line.now a.draws.now a.bytes.now a.tags.now x.value x.draws_after x.bytes_after a.quiet a.n 0 0
    (Err _) c.in-Err.is refl c.requires refl c.put_wrong.ensures
