use Rattle.std.proofs.Common.{◌≡◌, [], reverse, take, drop}
use Rattle.rdb_checks.specs.rdb_meaning.Defining.{index_fields_names}
use Rattle.rdb_definitions.proofs.indexes.check_key_names.Given as goal

abbrev pub invariant-loop-place : goal.invariant-loop-place
invariant-loop-place l =
    index_fields_names [] l.names l.fields
    ≡ index_fields_names (reverse (take l.place l.names)) (drop l.place l.names) l.fields
