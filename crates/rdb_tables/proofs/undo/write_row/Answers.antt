use Rattle.rdb_tables.proofs.Undos.{either_kept}
use Rattle.rdb_tables.proofs.undo.write_row.Goals as goal

pub returns-clause-kept : goal.returns-clause-kept
returns-clause-kept c =
    either_kept c.args.name.now c.args.key c.args.tables.now c.args.undo.now c.put_row.ensures.ordered c.put_row.result c.args.row c.put_row.new.tables c.log.new.undo
    c.in_ok-log.ensures.ok c.put_row.ensures.ok c.put_row.ensures.err
