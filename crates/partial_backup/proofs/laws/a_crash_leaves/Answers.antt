use Rattle.partial_backup.proofs.Standing.{crashed, ended}
use Rattle.partial_backup.proofs.laws.a_crash_leaves.Goals as goal

pub returns-clause-within : goal.returns-clause-within
returns-clause-within g c = λ former classes lines is image left. crashed former classes lines (g.D.Disk.view c.args.disk.now) c.args.copying.now is image left

pub returns-clause-ended : goal.returns-clause-ended
returns-clause-ended g c = λ former classes lines stage is image left. ended former classes lines (g.D.Disk.view c.args.disk.now) c.args.copying.now stage is image left
