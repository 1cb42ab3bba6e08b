use Rattle.std.proofs.Common.{◌≡◌, ◌++◌, drop}
use Rattle.rdb_meaning.specs.Execution.{row_line, row_line_from}
use Rattle.rdb_tables.proofs.lines.row_line.Given as goal

abbrev pub invariant-loop-at : goal.invariant-loop-at
invariant-loop-at l = row_line l.fields l.row ≡ l.values ++ row_line_from l.at (drop l.at l.fields) l.row
