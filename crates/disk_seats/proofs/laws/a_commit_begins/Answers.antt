use Rattle.disk_seats.proofs.TakenUp.{taken_facts}
use Rattle.disk_seats.proofs.laws.a_commit_begins.Goals as goal

pub returns : goal.returns
returns g c = let v = g.D.Disk.view c.args.disk.now in λ ledger member o all n place lines classes flight was is enough none going it of entered.
    taken_facts v ledger member o all n was is enough none going place lines classes flight it of entered
