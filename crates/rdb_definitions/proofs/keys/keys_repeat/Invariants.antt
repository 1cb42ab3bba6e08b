use Rattle.std.proofs.Common.{◌≡◌, drop}
use Rattle.rdb_checks.specs.rdb_meaning.Defining.{keys_repeat}
use Rattle.rdb_definitions.proofs.keys.keys_repeat.Given as goal

abbrev pub invariant-loop-place : goal.invariant-loop-place
invariant-loop-place l = keys_repeat l.positions l.rows ≡ keys_repeat l.positions (drop l.place l.rows)
