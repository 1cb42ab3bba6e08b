use Rattle.std.proofs.Common.{◌≡◌, not, drop}
use Rattle.std.specs.List.{filter}
use Rattle.rdb_definitions.proofs.Removal.{is_named}
use Rattle.rdb_definitions.proofs.indexes.remove_named.Given as goal

abbrev pub invariant-loop-name : goal.invariant-loop-name
invariant-loop-name l =
    filter (λ e. not (is_named l.names e)) l.initial.indexes
    ≡ filter (λ e. not (is_named (drop l.name-index l.names) e)) l.indexes
