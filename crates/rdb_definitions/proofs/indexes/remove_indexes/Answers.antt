use Rattle.std.proofs.Common.{◌==◌, not, ap, ◌∙◌}
use Rattle.std.specs.List.{filter}
use Rattle.rdb_definitions.proofs.Removal.{is_named, names_of, filter_named}
use Rattle.rdb_definitions.proofs.indexes.remove_indexes.Goals as goal

pub returns-clause-ok : goal.returns-clause-ok
returns-clause-ok c =
    let es = c.args.indexes.now in
    c.remove_named.ensures
    ∙ ap (λ ns. filter (λ e. not (is_named ns e)) es)
    (c.as_slice-2.ensures ∙ c.in_ok-names.ensures ∙ ap (λ l. names_of (filter (λ e. e.1.relation == c.args.area) l)) c.as_slice.ensures.value)
    ∙ filter_named (λ e. e.1.relation == c.args.area) es c.as_slice.ensures.ordered
