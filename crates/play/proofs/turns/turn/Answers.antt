-- What was reached says what the turn leaves. Assumes nothing.
use Rattle.std.proofs.Common.{refl, sym}
use Rattle.print.proofs.Lines.{laid_none}
use Rattle.play.proofs.TurnsLeft.{turned_at}
use Rattle.play.proofs.turns.turn.Goals as goal

pub returns-in-Line : goal.returns-in-Line
returns-in-Line c = turned_at _ c.in-Line.is c.play_line.ensures

pub returns-in-Long : goal.returns-in-Long
returns-in-Long c =
    rw c.in-Long.is (record { leaves = record { rack = refl; drawn = refl; read = refl }; fine = c.requires; text = c.put_long.ensures })

pub returns-in-End : goal.returns-in-End
returns-in-End c =
    rw c.in-End.is (record { leaves = record { rack = refl; drawn = refl; read = refl }; fine = c.requires; text = sym (laid_none _) })
