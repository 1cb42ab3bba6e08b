use Rattle.backup_making.specs.Making.{file_of}
use Rattle.backup_making.proofs.Stages.{closed, keeps_open}
use Rattle.backup_making.proofs.making.close.Goals as goal

pub returns-clause-done : goal.returns-clause-done
returns-clause-done g c = λ done tells lines head was. closed (file_of c.args.number) head lines (g.D.Disk.view c.args.disk.now) (g.D.Disk.view c.settle.new.disk) (c.settle.ensures.kept tells) (c.settle.ensures.stable done tells) was

pub returns-clause-not_done : goal.returns-clause-not_done
returns-clause-not_done g c = λ tells lines was. keeps_open (file_of c.args.number) lines (g.D.Disk.view c.args.disk.now) (g.D.Disk.view c.settle.new.disk) (c.settle.ensures.kept tells) was

pub returns-clause-steps : goal.returns-clause-steps
returns-clause-steps g c = c.settle.ensures.steps (file_of c.args.number)
