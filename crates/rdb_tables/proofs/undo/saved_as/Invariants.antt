use Rattle.std.proofs.Common.{◌≡◌, drop}
use Rattle.rdb_tables.specs.Undoing.{saved_as}
use Rattle.rdb_tables.proofs.undo.saved_as.Given as goal

abbrev pub invariant-loop-each : goal.invariant-loop-each
invariant-loop-each l = saved_as l.name (drop l.each-index l.saved) ≡ saved_as l.name l.saved
