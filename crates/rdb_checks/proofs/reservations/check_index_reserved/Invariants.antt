use Rattle.std.proofs.Common.{◌≡◌, drop}
use Rattle.rdb_meaning.specs.Checks.{reservation_refusal}
use Rattle.rdb_meaning.specs.Meaning.{uses_of_area}
use Rattle.rdb_checks.proofs.reservations.check_index_reserved.Given as goal

abbrev pub invariant-loop-entry : goal.invariant-loop-entry
invariant-loop-entry l =
    reservation_refusal l.reservations (uses_of_area l.index.relation l.tables.relations)
    ≡ reservation_refusal l.reservations (uses_of_area l.index.relation (drop l.entry-index l.entry-items))
