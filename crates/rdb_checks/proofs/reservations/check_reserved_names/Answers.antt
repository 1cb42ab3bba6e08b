use Rattle.std.proofs.Common.{rules}
use Rattle.rdb_checks.proofs.Reserving.{reserved_names-at}
use Rattle.rdb_checks.proofs.reservations.check_reserved_names.Goals as goal

pub returns-then-is_named : goal.returns-then-is_named
returns-then-is_named c =
    let at = reserved_names-at c.args.reservations.now c.loop-place.place c.index-reservations-place.result c.args.tables.now c.loop-place-test.true c.index-reservations-place.is in
    search rules

pub loop-place-preserved : goal.loop-place-preserved
loop-place-preserved c =
    let at = reserved_names-at c.args.reservations.now c.loop-place.place c.index-reservations-place.result c.args.tables.now c.loop-place-test.true c.index-reservations-place.is in
    search rules
