use Rattle.ledger_versions.proofs.Written.{still_reads, still_aside, still_slot, still_entered, still_put, still_back}
use Rattle.ledger_versions.proofs.calls.calls_keep_readers.Goals as goal

pub returns-clause-reads : goal.returns-clause-reads
returns-clause-reads g c = let v = g.D.Disk.view in λ ledger limit course waiting only was. still_reads (v c.args.before.now) (v c.args.after.now) limit course waiting ledger c.requires.tells was only

pub returns-clause-aside : goal.returns-clause-aside
returns-clause-aside g c = let v = g.D.Disk.view in λ ledger limit course waiting file slot other area writes was. still_aside (v c.args.before.now) (v c.args.after.now) limit course waiting ledger c.requires.tells was file slot other area writes

pub returns-clause-slot : goal.returns-clause-slot
returns-clause-slot g c = let v = g.D.Disk.view in λ ledger limit course waiting number slot free writes was. still_slot (v c.args.before.now) (v c.args.after.now) limit course waiting ledger c.requires.tells was number slot free writes

pub returns-clause-entered : goal.returns-clause-entered
returns-clause-entered g c = let v = g.D.Disk.view in λ ledger limit course waiting file slot other writes keeps was. still_entered (v c.args.before.now) (v c.args.after.now) limit course waiting ledger c.requires.tells was file slot other writes keeps

pub returns-clause-put : goal.returns-clause-put
returns-clause-put g c = let v = g.D.Disk.view in λ ledger limit course waiting file slot other commit facts under distinct writes puts was.
    still_put (v c.args.before.now) (v c.args.after.now) limit course waiting ledger c.requires.tells was file slot other commit facts under distinct writes puts

pub returns-clause-back : goal.returns-clause-back
returns-clause-back g c = let v = g.D.Disk.view in λ ledger limit course waiting file slot other member left all transaction facts undoes is writes puts was.
    still_back (v c.args.before.now) (v c.args.after.now) limit course waiting ledger c.requires.tells was file slot other member left all transaction facts undoes is writes puts
