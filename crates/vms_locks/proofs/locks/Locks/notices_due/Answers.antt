use Rattle.vms_queues.proofs.Owners.{length-owners}
use Rattle.vms_locks.specs.Table.{table_of, queues_at}
use Rattle.vms_locks.proofs.locks.Locks.notices_due.Goals as goal

pub holders_at-requires : goal.holders_at-requires
holders_at-requires c =
    let q = queues_at (table_of c.self.inside.table) c.args.node in
    length-owners q.granted (c.self.invariant.0.sound c.args.node).granted_once (c.self.invariant.2 c.args.node).granted
