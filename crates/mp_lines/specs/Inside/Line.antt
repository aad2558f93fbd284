-- How contracts see a line.
use Rattle.std.specs.Arc.{arc_value}
use Rattle.mp_lines.specs.declared.line.Line.{Line}
use Rattle.mp_lines.specs.declared.line.Line.TheVariants as lines
use Rattle.mp_lines.specs.Lines as told

abbrev pub to_line : Line → told.Line
to_line lines.Blank = told.Blank
to_line (lines.Sets setting) = told.Sets setting
to_line (lines.Script named) = told.Script named
to_line (lines.Data named) = told.Data named
to_line (lines.Out name payment) = told.Out name payment
to_line (lines.Tx name tx) = told.Tx name tx
to_line (lines.Submit tx) = told.Submit (arc_value tx)
to_line (lines.Remove ids) = told.Remove ids.items
to_line (lines.Sync ledger) = told.Sync ledger
to_line (lines.For ledger) = told.For ledger
to_line (lines.Asks query) = told.Asks query
