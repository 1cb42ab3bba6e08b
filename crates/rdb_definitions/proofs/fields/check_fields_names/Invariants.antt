use Rattle.std.proofs.Common.{◌≡◌, [], map, take, drop}
use Rattle.rdb_checks.specs.rdb_meaning.Defining.{fields_names}
use Rattle.rdb_definitions.proofs.fields.check_fields_names.Given as goal

abbrev pub invariant-loop-place : goal.invariant-loop-place
invariant-loop-place l =
    fields_names [] l.fields l.tables
    ≡ fields_names (map (λ f. f.name) (take l.place l.fields)) (drop l.place l.fields) l.tables
