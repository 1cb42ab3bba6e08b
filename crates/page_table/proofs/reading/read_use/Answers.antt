use Rattle.database_opening.proofs.of_line_moves.Runs.{reads_once}
use Rattle.page_table.proofs.reading.read_use.Goals as goal

pub returns-in_err-read-clause-reads : goal.returns-in_err-read-clause-reads
returns-in_err-read-clause-reads g c = let v = g.D.Disk.view in reads_once (v c.args.disk.now) (v c.read.new.self) c.read.result c.read.ensures.counts c.read.ensures.kept

pub returns-in-Ok-clause-reads : goal.returns-in-Ok-clause-reads
returns-in-Ok-clause-reads g c = let v = g.D.Disk.view in reads_once (v c.args.disk.now) (v c.read.new.self) c.read.result c.read.ensures.counts c.read.ensures.kept

pub returns-in-Err-clause-reads : goal.returns-in-Err-clause-reads
returns-in-Err-clause-reads g c = let v = g.D.Disk.view in reads_once (v c.args.disk.now) (v c.read.new.self) c.read.result c.read.ensures.counts c.read.ensures.kept
