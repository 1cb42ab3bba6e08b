use Rattle.ledger_versions.proofs.LinesJoin.{line_journalled}
use Rattle.ledger_versions.proofs.lines.a_line_is_journalled.Goals as goal

pub returns : goal.returns
returns g c = let v = g.D.Disk.view in λ ledger limit course waiting member stable index all transaction key facts stands is writes ended was.
    line_journalled (v c.args.before.now) ledger limit course waiting member all stable transaction facts stands is was (v c.args.after.now) key index c.requires.tells writes ended
