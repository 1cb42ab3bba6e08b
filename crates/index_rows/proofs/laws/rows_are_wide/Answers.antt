use Rattle.line_view.specs.Knowledge.{lines_in}
use Rattle.index_rows.proofs.Wide.{rows_wide}
use Rattle.index_rows.proofs.laws.rows_are_wide.Goals as goal

pub returns : goal.returns
returns c = λ all r table has. rows_wide r (lines_in r.area all) table.rows has.rows
