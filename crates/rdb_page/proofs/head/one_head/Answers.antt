use Rattle.rdb_page.proofs.Readings as readings
use Rattle.rdb_page.proofs.head.one_head.Goals as goal

pub returns : goal.returns
returns c = readings.one_head
