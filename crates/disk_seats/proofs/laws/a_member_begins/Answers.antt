use Rattle.disk_seats.proofs.Begins.{begun_facts}
use Rattle.disk_seats.proofs.Standings.{not_resting}
use Rattle.disk_seats.proofs.laws.a_member_begins.Goals as goal

pub returns : goal.returns
returns g c = let v = g.D.Disk.view c.args.disk.now in λ ledger member was is_member rests drawn room.
    begun_facts v ledger member was is_member rests drawn room (not_resting v ledger member was rests)
