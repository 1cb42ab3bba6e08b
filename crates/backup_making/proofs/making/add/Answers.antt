use Rattle.backup_making.specs.Making.{file_of}
use Rattle.backup_making.proofs.Stages.{added, stays_open}
use Rattle.backup_making.proofs.making.add.Goals as goal

pub returns-clause-done : goal.returns-clause-done
returns-clause-done g c = λ done tells lines count was. added (file_of c.args.number) c.args.count lines c.args.line.now _ (g.D.Disk.view c.args.disk.now) (g.D.Disk.view c.write_in.new.disk) count c.put_backup_line.ensures (c.write_in.ensures.pending tells) (c.write_in.ensures.written done tells) (c.write_in.ensures.either tells) was

pub returns-clause-not_done : goal.returns-clause-not_done
returns-clause-not_done g c = λ tells lines count was. stays_open (file_of c.args.number) c.args.count lines _ (g.D.Disk.view c.args.disk.now) (g.D.Disk.view c.write_in.new.disk) count (c.write_in.ensures.pending tells) (c.write_in.ensures.either tells) was
