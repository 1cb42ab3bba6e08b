use Rattle.std.proofs.Common.{false, refl, sym}
use Rattle.vms_locks.specs.Table.{table_of, queues_at}
use Rattle.vms_locks.specs.Places.{place_of}
use Rattle.vms_locks.proofs.Waiting.{waits-at_place, waits-nowhere}
use Rattle.vms_locks.proofs.waits.waits_for.Goals as goal

pub returns-in-Some : goal.returns-in-Some
returns-in-Some c =
    waits-at_place (queues_at (table_of c.args.table.now)) (place_of c.args.places.now) c.requires c.args.waiter c.args.blocker c.in-Some.node c.waits_at.result (sym c.in-Some.ensures) c.waits_at.ensures

pub returns-in-None : goal.returns-in-None
returns-in-None c =
    waits-nowhere (queues_at (table_of c.args.table.now)) (place_of c.args.places.now) c.requires c.args.waiter c.args.blocker false (sym c.in-None.ensures) refl
