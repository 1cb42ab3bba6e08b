use Rattle.std.proofs.Common.{◌≡◌, ◌-◌, ◌++◌, replicate}
use Rattle.rdb_types.specs.declared.values.Value.TheVariants.{Missing}
use Rattle.relation_rows.specs.Stored.{completed}
use Rattle.relation_rows.proofs.stored.complete.Given as goal

abbrev pub invariant-loop : goal.invariant-loop
invariant-loop l = l.row ++ replicate (l.end - l.counter) Missing ≡ completed l.fields l.fn.row
