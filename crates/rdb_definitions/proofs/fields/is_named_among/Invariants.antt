use Rattle.std.proofs.Common.{◌≡◌, map, drop}
use Rattle.rdb_checks.specs.rdb_meaning.Defining.{is_among}
use Rattle.rdb_definitions.proofs.fields.is_named_among.Given as goal

abbrev pub invariant-loop-field : goal.invariant-loop-field
invariant-loop-field l =
    is_among l.name (map (λ f. f.name) l.fields) ≡ is_among l.name (map (λ f. f.name) (drop l.field-index l.fields))
