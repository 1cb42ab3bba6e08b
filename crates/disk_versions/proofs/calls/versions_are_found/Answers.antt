use Rattle.std.proofs.Common.{arith}
use Rattle.disk_versions.proofs.Beginnings.{opens}
use Rattle.disk_versions.proofs.calls.versions_are_found.Goals as goal

pub returns : goal.returns
returns g c = let v = g.D.Disk.view c.args.disk.now in λ now limit facts idle. opens v now limit (g.met.D.Disk.content_left c.args.disk.now v.moment c.requires.tells (omega arith)) facts idle
