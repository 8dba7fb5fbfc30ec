-- A line as clauses see it. Assumes nothing.
use Rattle.print.specs.declared.line.Line.{Line}
use Rattle.print.specs.Line.{Lent, lent}

unfoldable pub seen : Line → Lent
seen line = lent line.bytes.now line.at line.bytes.ghost_name
