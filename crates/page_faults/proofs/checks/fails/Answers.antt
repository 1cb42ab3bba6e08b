use Rattle.rdb_outside.specs.Runs.{no_calls, one_call}
use Rattle.page_faults.proofs.checks.fails.Goals as goal

pub returns-clause-reads : goal.returns-clause-reads
returns-clause-reads g c =
    let v = g.D.Disk.view in
    let old = v c.args.disk.now in
    one_call old old (v c.read.new.self) c.read.result (no_calls old) c.read.ensures.counts c.read.ensures.kept
