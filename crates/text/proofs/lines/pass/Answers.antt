-- A newline came. Assumes nothing.
use Rattle.std.proofs.Common.{rules, ◌≤◌, length}
use Rattle.text.proofs.LinesPlaces.{newline_front}
use Rattle.text.proofs.LinesBrought.{pass_behind}
use Rattle.text.proofs.lines.pass.Goals as goal

pub returns-in-Some-clause-passed : goal.returns-in-Some-clause-passed
returns-in-Some-clause-passed g c =
    let l : c.unwrap_or-n.result ≤ length c.read_part.new.part = search rules in
    pass_behind l (newline_front c.read_part.new.part c.unwrap_or-n.result l _ c.newline.ensures _ c.in-Some.is) c.no_line.ensures
