use Rattle.disk_seats.proofs.GivenUp.{undone_facts}
use Rattle.disk_seats.proofs.deaths.a_member_is_undone.Goals as goal

pub returns : goal.returns
returns g c = λ ledger member all was is. undone_facts (g.D.Disk.view c.args.disk.now) ledger was c.requires member all is
