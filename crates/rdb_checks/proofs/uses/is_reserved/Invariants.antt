use Rattle.std.proofs.Common.{◌≡◌, drop}
use Rattle.rdb_meaning.specs.Checks.{use_of, reserved_for}
use Rattle.rdb_checks.proofs.uses.is_reserved.Given as goal

abbrev pub invariant-loop-reservation : goal.invariant-loop-reservation
invariant-loop-reservation l =
    reserved_for l.reservations (use_of l.changes l.relation)
    ≡ reserved_for (drop l.reservation-index l.reservations) (use_of l.changes l.relation)
