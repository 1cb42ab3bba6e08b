use Rattle.std.proofs.Common.{◌≡◌, ◌++◌, drop}
use Rattle.rdb_checks.specs.rdb_meaning.Defining.{positions_of}
use Rattle.rdb_definitions.proofs.keys.positions_of.Given as goal

abbrev pub invariant-loop-name : goal.invariant-loop-name
invariant-loop-name l =
    positions_of l.names l.fields ≡ l.places ++ positions_of (drop l.name-index l.names) l.fields
