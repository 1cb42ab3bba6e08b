use Rattle.std.proofs.Common.{◌≡◌, drop}
use Rattle.rdb_meaning.specs.Contents.{is_taken}
use Rattle.rdb_tables.proofs.unique.is_taken.Given as goal

abbrev pub invariant-loop-key : goal.invariant-loop-key
invariant-loop-key l = is_taken l.places l.row l.own l.rows ≡ is_taken l.places l.row l.own (drop l.key-index l.rows)
