use Rattle.std.proofs.Common.{◌≡◌, reverse, take, drop, []}
use Rattle.rdb_meaning.specs.Meaning.{reserved_names}
use Rattle.rdb_checks.proofs.Reserving.{named}
use Rattle.rdb_checks.proofs.reservations.check_reserved_names.Given as goal

abbrev pub invariant-loop-place : goal.invariant-loop-place
invariant-loop-place l =
    reserved_names [] l.reservations l.tables
    ≡ reserved_names (reverse (named (take l.place l.reservations))) (drop l.place l.reservations) l.tables
