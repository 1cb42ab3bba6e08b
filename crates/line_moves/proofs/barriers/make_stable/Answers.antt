use Rattle.line_moves.proofs.Runs.{reads_once, facts_read}
use Rattle.line_moves.proofs.barriers.make_stable.Goals as goal

pub returns-clause-reads : goal.returns-clause-reads
returns-clause-reads g c = let v = g.D.Disk.view in reads_once (v c.args.disk.now) (v c.barrier.new.self) c.barrier.result c.barrier.ensures.counts c.barrier.ensures.kept

pub returns-clause-keeps : goal.returns-clause-keeps
returns-clause-keeps g c = let v = g.D.Disk.view in λ t now was. facts_read (v c.args.disk.now) (v c.barrier.new.self) (reads_once (v c.args.disk.now) (v c.barrier.new.self) c.barrier.result c.barrier.ensures.counts c.barrier.ensures.kept) t now was
