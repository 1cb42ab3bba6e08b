use Rattle.disk_seats.proofs.GivenUp.{stands_facts, lost_facts}
use Rattle.disk_seats.proofs.deaths.a_commit_is_judged.Goals as goal

pub returns-clause-stands : goal.returns-clause-stands
returns-clause-stands g c = λ ledger commit was is up long stands. stands_facts (g.D.Disk.view c.args.disk.now) ledger commit was is c.requires.stable up long c.requires.tells stands

pub returns-clause-lost : goal.returns-clause-lost
returns-clause-lost g c = λ ledger commit was is up long lost. lost_facts (g.D.Disk.view c.args.disk.now) ledger commit was is c.requires.stable up long lost
