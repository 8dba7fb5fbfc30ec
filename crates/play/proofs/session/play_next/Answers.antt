-- The line that is found is the line that is played. Assumes nothing.
use Rattle.std.proofs.Common.{refl}
use Rattle.play.proofs.SessionLaid.{stepped}
use Rattle.play.proofs.session.play_next.Goals as goal

pub returns : goal.returns
returns c =
    let s = c.args.session.now in
    stepped s.source s.n s.buf c.args.tags.now s.draws s.bytes c.next-got.result c.next-got.ensures.follows refl c.line_in.ensures c.turn.ensures
