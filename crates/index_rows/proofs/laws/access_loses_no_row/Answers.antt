use Rattle.index_rows.proofs.Losing.{loses_none}
use Rattle.index_rows.proofs.laws.access_loses_no_row.Goals as goal

pub returns : goal.returns
returns c = loses_none
