use Rattle.line_moves.proofs.Runs.{reads_once}
use Rattle.committed_lines.proofs.lines.before_image.Goals as goal

pub returns-in_err-read-clause-reads : goal.returns-in_err-read-clause-reads
returns-in_err-read-clause-reads g c = let v = g.D.Disk.view in reads_once (v c.args.disk.now) (v c.read.new.self) c.read.result c.read.ensures.counts c.read.ensures.kept

pub returns-in-Some-clause-reads : goal.returns-in-Some-clause-reads
returns-in-Some-clause-reads g c = let v = g.D.Disk.view in reads_once (v c.args.disk.now) (v c.read.new.self) c.read.result c.read.ensures.counts c.read.ensures.kept

pub returns-in-None-clause-reads : goal.returns-in-None-clause-reads
returns-in-None-clause-reads g c = let v = g.D.Disk.view in reads_once (v c.args.disk.now) (v c.read.new.self) c.read.result c.read.ensures.counts c.read.ensures.kept
