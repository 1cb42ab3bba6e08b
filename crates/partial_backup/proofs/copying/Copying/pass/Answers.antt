use Rattle.partial_backup.proofs.Copies.{passes}
use Rattle.partial_backup.proofs.copying.Copying.pass.Goals as goal

pub returns-clause-reaches : goal.returns-clause-reaches
returns-clause-reaches g c = λ former classes lines opens next absent was. passes former classes lines (g.D.Disk.view c.args.disk.now) c.args.self.now c.args.key opens next absent was
