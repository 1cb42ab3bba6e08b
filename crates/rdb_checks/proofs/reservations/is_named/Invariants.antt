use Rattle.std.proofs.Common.{◌≡◌, map, drop}
use Rattle.rdb_meaning.specs.Defining.{is_among}
use Rattle.rdb_checks.proofs.reservations.is_named.Given as goal

abbrev pub invariant-loop-reservation : goal.invariant-loop-reservation
invariant-loop-reservation l =
    is_among l.relation (map (λ r. r.relation) l.reservations)
    ≡ is_among l.relation (map (λ r. r.relation) (drop l.reservation-index l.reservations))
