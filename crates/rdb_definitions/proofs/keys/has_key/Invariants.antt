use Rattle.std.proofs.Common.{◌≡◌, drop}
use Rattle.rdb_checks.specs.rdb_meaning.Contents.{has_key}
use Rattle.rdb_definitions.proofs.keys.has_key.Given as goal

abbrev pub invariant-loop-entry : goal.invariant-loop-entry
invariant-loop-entry l =
    has_key l.positions l.row l.rows ≡ has_key l.positions l.row (drop l.entry-index l.rows)
