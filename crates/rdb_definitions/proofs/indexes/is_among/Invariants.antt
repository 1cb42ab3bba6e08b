use Rattle.std.proofs.Common.{◌≡◌, drop}
use Rattle.rdb_checks.specs.rdb_meaning.Defining.{is_among}
use Rattle.rdb_definitions.proofs.indexes.is_among.Given as goal

abbrev pub invariant-loop-other : goal.invariant-loop-other
invariant-loop-other l = is_among l.name l.names ≡ is_among l.name (drop l.other-index l.names)
