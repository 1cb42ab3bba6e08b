use Rattle.record_format.proofs.Rows as rows
use Rattle.record_format.proofs.row.one_row.Goals as goal

pub returns-clause-row : goal.returns-clause-row
returns-clause-row c = rows.one_row
