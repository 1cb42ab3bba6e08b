use Rattle.std.proofs.Common.{◌≡◌, ◌==◌, ◌++◌, map, drop}
use Rattle.std.specs.List.{filter}
use Rattle.rdb_definitions.proofs.indexes.names_of_indexes.Given as goal

abbrev pub invariant-loop-entry : goal.invariant-loop-entry
invariant-loop-entry l =
    map (λ e. e.0) (filter (λ e. e.1.relation == l.area) l.indexes)
    ≡ l.names ++ map (λ e. e.0) (filter (λ e. e.1.relation == l.area) (drop l.entry-index l.indexes))
