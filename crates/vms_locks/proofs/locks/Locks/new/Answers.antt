use Rattle.vms_locks.specs.Table.{Table, table_of}
use Rattle.vms_locks.specs.Places.{place_of}
use Rattle.vms_locks.proofs.Empty.{live-empty, queues-empty}
use Rattle.vms_locks.proofs.Owned.{owners-empty}
use Rattle.vms_locks.proofs.Known.{known-empty}
use Rattle.vms_locks.proofs.locks.Locks.new.Goals as goal

pub invariant_of-result : goal.invariant_of-result
invariant_of-result c =
    let t : Table = table_of c.new.result in
    let empty = queues-empty t c.new.ensures.empty in
    let live = live-empty t c.new.ensures.empty in
    (live.0, live.1, owners-empty t empty, known-empty (place_of c.new-2.result) t c.new-2.ensures empty)
