use Rattle.disk_seats.proofs.Entered.{all_entered}
use Rattle.disk_seats.proofs.laws.pages_are_entered.Goals as goal

pub returns : goal.returns
returns g c = λ lines owned. all_entered (g.D.Disk.view c.args.disk.now) c.requires lines owned
