use Rattle.std.proofs.Common.{◌==◌, not, ap, ◌∙◌}
use Rattle.std.specs.List.{filter}
use Rattle.rdb_definitions.proofs.Removal.{filter_tied}
use Rattle.rdb_definitions.proofs.relations.delete_relation.Goals as goal

pub returns-clause-ok : goal.returns-clause-ok
returns-clause-ok c =
    let t = c.args.tables.now in
    let relations = c.remove.ensures.removed ∙ filter_tied c.args.name.now t.relations in
    let indexes = c.in_ok-remove_indexes.ensures.ok ∙ ap (λ a. filter (λ e. not (e.1.relation == a)) t.indexes) c.area_of-area.ensures in
    λ i. record t { relations = relations i; indexes = indexes i }
