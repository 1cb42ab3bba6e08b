use Rattle.backup_making.specs.Making.{file_of}
use Rattle.backup_making.proofs.Stages.{opened}
use Rattle.backup_making.proofs.making.open.Goals as goal

pub returns-clause-done : goal.returns-clause-done
returns-clause-done g c = λ done tells former was. opened former (file_of c.args.number) (g.D.Disk.view c.args.disk.now) (g.D.Disk.view c.settle.new.disk) (c.settle.ensures.kept tells) (c.settle.ensures.stable done tells) was

pub returns-clause-steps : goal.returns-clause-steps
returns-clause-steps g c = c.settle.ensures.steps (file_of c.args.number)
