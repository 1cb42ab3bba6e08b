use Rattle.disk_seats.proofs.GivenUp.{given_facts}
use Rattle.disk_seats.proofs.deaths.a_commit_is_given_up.Goals as goal

pub returns : goal.returns
returns g c = λ ledger commit was is off. given_facts (g.D.Disk.view c.args.disk.now) ledger commit was is off
