use Rattle.partial_backup.proofs.Standing.{untouched}
use Rattle.partial_backup.proofs.laws.others_keep_it.Goals as goal

pub returns : goal.returns
returns g c = λ former classes lines u was. untouched former classes lines (g.D.Disk.view c.args.before.now) (g.D.Disk.view c.args.after.now) c.args.copying.now u was
