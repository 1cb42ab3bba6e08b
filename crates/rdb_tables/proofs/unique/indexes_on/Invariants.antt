use Rattle.std.proofs.Common.{◌≡◌, ◌==◌, drop, filter}
use Rattle.rdb_meaning.specs.Contents.{by_area}
use Rattle.rdb_tables.specs.Indexes.{seen_at, with_some}
use Rattle.rdb_tables.proofs.unique.indexes_on.Given as goal

abbrev pub invariant-loop-place : goal.invariant-loop-place
invariant-loop-place l = seen_at l.indexes l.places ≡ with_some (by_area (filter (λ e. e.1.relation == l.area) (drop l.place l.indexes)))
