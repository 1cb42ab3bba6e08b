use Rattle.std.proofs.Common.{◌≡◌, ◌-◌, ◌++◌}
use Rattle.catalog.specs.Schema.{fields_from}
use Rattle.catalog.proofs.schema.fields_from.Given as goal

abbrev pub invariant-loop-position : goal.invariant-loop-position
invariant-loop-position l = l.fields ++ fields_from (l.limit - l.position) l.relation l.position l.directory.fields ≡ fields_from l.limit l.relation 0 l.directory.fields
