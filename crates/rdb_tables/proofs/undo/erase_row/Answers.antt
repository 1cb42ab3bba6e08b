use Rattle.std.proofs.Common.{ap, ◌∙◌}
use Rattle.rdb_meaning.specs.declared.tables.Tables.{Tables}
use Rattle.rdb_tables.specs.Undoing.{beginning}
use Rattle.rdb_tables.proofs.Undos.{erase_kept}
use Rattle.rdb_tables.proofs.undo.erase_row.Goals as goal

pub returns-clause-kept : goal.returns-clause-kept
returns-clause-kept c =
    ap (λ (t : Tables). beginning t c.save.new.undo) c.take_row.ensures.taken
    ∙ erase_kept c.args.name.now c.args.key.now c.args.tables.now c.save.new.undo c.take_row.ensures.ordered.relations c.in_ok-save.ensures.saved
    ∙ c.save.ensures.kept
