use Rattle.store_shows.proofs.Standing.{now_stands}
use Rattle.store_shows.proofs.laws.a_crash_leaves_what_may_stand.Goals as goal

pub returns : goal.returns
returns g c = λ ledger shelf lines was shows it. now_stands (g.D.Disk.view c.args.disk.now) ledger shelf was shows lines it
