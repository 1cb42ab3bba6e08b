use Rattle.ledger_versions.proofs.LinesJoin.{line_joins}
use Rattle.ledger_versions.proofs.lines.a_line_joins.Goals as goal

pub returns : goal.returns
returns g c = let v = g.D.Disk.view in λ ledger limit course waiting member stable all transaction facts stands is key line more some within free writes there ended bears before puts none was.
    line_joins (v c.args.before.now) ledger limit course waiting member all stable transaction facts stands is was (v c.args.after.now) key line more c.requires.tells some within free writes there ended bears before puts none
