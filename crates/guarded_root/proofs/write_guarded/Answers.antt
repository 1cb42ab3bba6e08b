use Rattle.guarded_root.proofs.Adding.{adds_write}
use Rattle.guarded_root.proofs.Sweeping.{write_run}
use Rattle.guarded_root.proofs.write_guarded.Goals as goal

pub returns-clause-runs : goal.returns-clause-runs
returns-clause-runs g c = let v = g.D.Disk.view in
    write_run c.args.file c.args.slot c.args.bytes.now (v c.args.disk.now) (v c.write.new.self) c.write.result c.requires.other c.write.ensures.counts c.write.ensures.pending c.write.ensures.written c.write.ensures.failed

pub returns-clause-adds : goal.returns-clause-adds
returns-clause-adds g c = λ t. let v = g.D.Disk.view in
    adds_write c.args.file c.args.slot c.args.bytes.now (v c.args.disk.now) (v c.write.new.self) c.write.result t c.write.ensures.counts (c.write.ensures.pending t)
