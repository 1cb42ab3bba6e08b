use Rattle.backup_making.specs.Making.{file_of}
use Rattle.backup_making.proofs.Stages.{headed, stays_closed}
use Rattle.backup_making.proofs.making.put_first.Goals as goal

pub returns-clause-done : goal.returns-clause-done
returns-clause-done g c = λ done tells lines was. headed (file_of c.args.number) c.args.head.now lines _ (g.D.Disk.view c.args.disk.now) (g.D.Disk.view c.write_in.new.disk) c.put_backup_head.ensures (c.write_in.ensures.pending tells) (c.write_in.ensures.written done tells) was

pub returns-clause-not_done : goal.returns-clause-not_done
returns-clause-not_done g c = λ tells lines was. stays_closed (file_of c.args.number) c.args.head.now lines _ (g.D.Disk.view c.args.disk.now) (g.D.Disk.view c.write_in.new.disk) c.put_backup_head.ensures (c.write_in.ensures.pending tells) was
