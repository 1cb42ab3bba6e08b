use Rattle.std.proofs.Common.{◌≡◌, drop}
use Rattle.rdb_meaning.specs.Contents.{first_taken, indexes_on, is_taken}
use Rattle.rdb_tables.specs.Indexes.{seen_at}
use Rattle.rdb_tables.proofs.UniqueKeys.{first_taken_there}
use Rattle.rdb_tables.proofs.unique.taken_by.Given as goal

abbrev pub invariant-loop-place : goal.invariant-loop-place
invariant-loop-place l =
    first_taken (λ places. is_taken places l.row l.own l.relation.rows) (indexes_on l.relation.area l.tables)
    ≡ first_taken_there (λ places. is_taken places l.row l.own l.relation.rows) (seen_at l.tables.indexes (drop l.place-index l.place-items))
