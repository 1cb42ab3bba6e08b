use Rattle.ledger_versions.proofs.Restanding.{same_ledger}
use Rattle.ledger_versions.proofs.LinesJoin.{line_first, line_again, lines_alike}
use Rattle.ledger_versions.proofs.lines.lines_join_without_a_push.Goals as goal

pub returns-clause-first : goal.returns-clause-first
returns-clause-first g c = λ ledger limit course waiting member stable all transaction facts stands is key line more ended bears is_first before puts none was.
    line_first (g.D.Disk.view c.args.disk.now) ledger limit course waiting member all stable transaction facts stands is was key line more ended bears is_first before puts none

pub returns-clause-again : goal.returns-clause-again
returns-clause-again g c = λ ledger limit course waiting member stable all transaction facts stands is key line before more bears has one chain puts was.
    line_again (g.D.Disk.view c.args.disk.now) ledger limit course waiting member all stable transaction facts stands is was key line before more bears has one chain puts

pub returns-clause-alike : goal.returns-clause-alike
returns-clause-alike g c = λ ledger limit course waiting member stable all transaction facts stands is more alike was.
    lines_alike (g.D.Disk.view c.args.disk.now) ledger limit course waiting member all stable transaction facts stands is was more alike

pub returns-clause-same : goal.returns-clause-same
returns-clause-same g c = λ ledger limit course waiting member standing same was. same_ledger (g.D.Disk.view c.args.disk.now) limit course waiting ledger member standing same was
