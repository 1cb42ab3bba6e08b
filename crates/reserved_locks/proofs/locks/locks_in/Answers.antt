use Rattle.std.proofs.Common.{◌∙◌, length, refl, sym, ap, arith}
use Rattle.std.proofs.lemmas.Option.{slice_get_read}
use Rattle.std.specs.Option.{option_copied}
use Rattle.reserved_locks.proofs.Asked.{none-without}
use Rattle.reserved_locks.proofs.locks.locks_in.Goals as goal

pub returns-in-None-clause-unnamed : goal.returns-in-None-clause-unnamed
returns-in-None-clause-unnamed c none locks are = none-without c.args.tables.now c.args.reserved.now locks c.loop-reservation.reservation-index c.reservation-item.result
    (slice_get_read c.args.reserved.now (length c.args.reserved.now) c.loop-reservation.reservation-index c.reservation-item.result refl (omega arith) c.reservation-item.is) (sym c.relation.ensures ∙ ap option_copied c.in-None.is) are
