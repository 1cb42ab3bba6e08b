use Rattle.std.proofs.Common.{◌≡◌, true, ap, subst}
use Rattle.rdb_types.specs.declared.node.Node.{Node}
use Rattle.vms_queues.specs.Queues.{Queues, after_cancel}
use Rattle.vms_queues.proofs.Owners.{after_cancel-owners}
use Rattle.vms_locks.specs.Table.{Table, table_of, queues_at, is_listed}
use Rattle.vms_locks.specs.Places.{place_of}
use Rattle.vms_locks.proofs.Queued.{cancelled-queued}
use Rattle.vms_locks.proofs.Granting.{live-after_cancel}
use Rattle.vms_locks.proofs.Owned.{owners-changed}
use Rattle.vms_locks.proofs.Known.{places-reviewed}
use Rattle.vms_locks.proofs.Listed.{listed-kept}
use Rattle.vms_locks.proofs.locks.Locks.cancel.Goals as goal

pub invariant_of-self : goal.invariant_of-self
invariant_of-self c =
    let old : Table = table_of c.self.inside.table in
    let new : Table = table_of c.cancel_at.new.table in
    let node = c.args.node in
    let q : Queues = after_cancel (queues_at old node) c.args.owner in (
      live-after_cancel old new node c.args.owner
          c.self.invariant.0 c.cancel_at.ensures.after,
      c.cancel_at.ensures.used c.self.invariant.1,
      owners-changed old new node q c.cancel_at.ensures.after c.self.invariant.2 (after_cancel-owners (queues_at old node) c.args.owner (c.self.invariant.2 node)),
      places-reviewed old new (place_of c.self.inside.places) c.self.invariant.3 node q c.cancel_at.ensures.after (place_of c.review.new.places)
          (cancelled-queued (queues_at old node) c.args.owner) c.review.ensures,
    )

pub returns-clause-lists : goal.returns-clause-lists
returns-clause-lists c =
    let old : Table = table_of c.self.inside.table in
    let new : Table = table_of c.cancel_at.new.table in
    let node = c.args.node in
    subst (λ (t : Table). (n : Node) → is_listed new n ≡ true → is_listed t n ≡ true) c.self.view_is
    (listed-kept old new node (after_cancel (queues_at old node) c.args.owner) c.cancel_at.ensures.after (c.cancel_at.ensures.used c.self.invariant.1)
    (λ empty. ap (λ (q : Queues). after_cancel q c.args.owner) empty))
