use Rattle.ledger_versions.proofs.Written.{reader_begins, reader_ends, slots_given}
use Rattle.ledger_versions.proofs.reading.readers_and_slots.Goals as goal

pub returns-clause-begins : goal.returns-clause-begins
returns-clause-begins g c = λ ledger limit course waiting session active are was. reader_begins (g.D.Disk.view c.args.disk.now) limit course waiting ledger was session active are

pub returns-clause-ends : goal.returns-clause-ends
returns-clause-ends g c = λ ledger limit course waiting session was. reader_ends (g.D.Disk.view c.args.disk.now) limit course waiting ledger was session

pub returns-clause-given : goal.returns-clause-given
returns-clause-given g c = λ ledger limit course waiting given may was. slots_given (g.D.Disk.view c.args.disk.now) limit course waiting ledger was given may
