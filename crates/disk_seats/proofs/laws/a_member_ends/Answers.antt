use Rattle.disk_seats.proofs.EndsUndone.{ended_facts}
use Rattle.disk_seats.proofs.Standings.{not_ending}
use Rattle.disk_seats.proofs.laws.a_member_ends.Goals as goal

pub returns : goal.returns
returns g c = let v = g.D.Disk.view c.args.disk.now in λ ledger member was may. ended_facts v ledger member was may (not_ending v ledger member was may)
