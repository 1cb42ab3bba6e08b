use Rattle.std.proofs.Common.{◌≡◌, nat_lt, drop}
use Rattle.rdb_checks.specs.rdb_meaning.Defining.{longest_key}
use Rattle.rdb_definitions.proofs.keys.is_key_too_long.Given as goal

abbrev pub invariant-loop-name : goal.invariant-loop-name
invariant-loop-name l =
    nat_lt 120 (longest_key l.names l.fields) ≡ nat_lt l.room (longest_key (drop l.name-index l.names) l.fields)
