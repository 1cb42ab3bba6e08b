use Rattle.std.proofs.Common.{arith}
use Rattle.member_steps.proofs.Standings.{stands_committed, stands_changed}
use Rattle.member_steps.proofs.reading.lines_that_stand.Goals as goal

pub returns-clause-committed : goal.returns-clause-committed
returns-clause-committed g c = let v = g.D.Disk.view c.args.disk.now in λ ledger key was closed.
    stands_committed v (g.met.D.Disk.content_left c.args.disk.now v.moment c.requires (omega arith)) ledger was key closed

pub returns-clause-changed : goal.returns-clause-changed
returns-clause-changed g c = let v = g.D.Disk.view c.args.disk.now in λ ledger key member o was is bears.
    stands_changed v (g.met.D.Disk.content_left c.args.disk.now v.moment c.requires (omega arith)) ledger was key member o is bears
