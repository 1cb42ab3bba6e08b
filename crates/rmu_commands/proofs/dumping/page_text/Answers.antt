use Rattle.rdb_outside.specs.Runs.{then_reads}
use Rattle.rmu_commands.proofs.dumping.page_text.Goals as goal

pub returns-in-Ok-clause-reads : goal.returns-in-Ok-clause-reads
returns-in-Ok-clause-reads g c =
    let v = g.D.Disk.view in
    then_reads (v c.args.disk.now) (v c.find_root.new.disk) (v c.dump_page.new.disk) c.find_root.ensures.reads c.dump_page.ensures.reads

pub returns-in-Err-Failed-clause-reads : goal.returns-in-Err-Failed-clause-reads
returns-in-Err-Failed-clause-reads g c =
    let v = g.D.Disk.view in
    then_reads (v c.args.disk.now) (v c.find_root.new.disk) (v c.dump_page.new.disk) c.find_root.ensures.reads c.dump_page.ensures.reads

pub returns-clause-reads : goal.returns-clause-reads
returns-clause-reads g c =
    let v = g.D.Disk.view in
    then_reads (v c.args.disk.now) (v c.find_root.new.disk) (v c.dump_page.new.disk) c.find_root.ensures.reads c.dump_page.ensures.reads
