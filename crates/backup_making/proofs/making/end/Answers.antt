use Rattle.backup_making.specs.Making.{file_of}
use Rattle.backup_making.proofs.Stages.{ended, keeps_headed}
use Rattle.backup_making.proofs.making.end.Goals as goal

pub returns-clause-done : goal.returns-clause-done
returns-clause-done g c = λ done tells lines head was. ended (file_of c.args.number) head lines (g.D.Disk.view c.args.disk.now) (g.D.Disk.view c.settle.new.disk) (c.settle.ensures.kept tells) (c.settle.ensures.stable done tells) was

pub returns-clause-not_done : goal.returns-clause-not_done
returns-clause-not_done g c = λ tells lines head was. keeps_headed (file_of c.args.number) head lines (g.D.Disk.view c.args.disk.now) (g.D.Disk.view c.settle.new.disk) (c.settle.ensures.kept tells) was

pub returns-clause-steps : goal.returns-clause-steps
returns-clause-steps g c = c.settle.ensures.steps (file_of c.args.number)
