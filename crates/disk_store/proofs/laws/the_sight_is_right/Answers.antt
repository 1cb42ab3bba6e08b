use Rattle.std.proofs.Common.{sym}
use Rattle.disk_store.proofs.Agreeing.{agreeing, opening, standing}
use Rattle.disk_store.proofs.laws.the_sight_is_right.Goals as goal

pub returns-clause-agrees : goal.returns-clause-agrees
returns-clause-agrees g c = agreeing (g.D.Disk.view c.args.disk.now) c.args.held.now

pub returns-clause-counts : goal.returns-clause-counts
returns-clause-counts g c h shown s = sym (shown.steps s)

pub returns-clause-stands : goal.returns-clause-stands
returns-clause-stands g c = standing (g.D.Disk.view c.args.disk.now) c.args.held.now

pub returns-clause-opens : goal.returns-clause-opens
returns-clause-opens g c = opening (g.D.Disk.view c.args.disk.now) c.args.held.now
