use Rattle.record_format.proofs.Rows as rows
use Rattle.record_format.proofs.row.one_image.Goals as goal

pub returns : goal.returns
returns c = rows.one_image
