use Rattle.std.proofs.Common.{arith}
use Rattle.workload_runs.proofs.laws.told_is_left.Goals as goal

pub returns : goal.returns
returns g c tells = g.met.D.Disk.content_left c.args.disk.now (g.D.Disk.view c.args.disk.now).moment tells (omega arith)
