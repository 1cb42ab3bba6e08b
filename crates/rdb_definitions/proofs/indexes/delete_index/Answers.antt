use Rattle.std.proofs.Common.{ap, ◌∙◌}
use Rattle.rdb_definitions.proofs.Removal.{filter_tied}
use Rattle.rdb_definitions.proofs.indexes.delete_index.Goals as goal

pub returns : goal.returns
returns c =
    ap (λ es. record c.args.tables.now { indexes = es })
    (c.remove.ensures.removed ∙ filter_tied c.args.name.now c.args.tables.now.indexes)
