use Rattle.std.proofs.Common.{◌≡◌, replicate}
use Rattle.rdb_types.specs.declared.values.Value.TheVariants.{Missing}
use Rattle.rdb_tables.proofs.assign.missing_row.Given as goal

abbrev pub invariant-loop-field : goal.invariant-loop-field
invariant-loop-field l = l.row ≡ replicate l._field-index Missing
