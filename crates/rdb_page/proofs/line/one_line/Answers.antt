use Rattle.rdb_page.proofs.Readings as readings
use Rattle.rdb_page.proofs.line.one_line.Goals as goal

pub returns : goal.returns
returns c = readings.one_line
