use Rattle.std.proofs.Common.{◌≡◌, true, ap, subst}
use Rattle.rdb_types.specs.declared.node.Node.{Node}
use Rattle.vms_queues.specs.Queues.{Queues, after_release}
use Rattle.vms_queues.proofs.Owners.{after_release-owners}
use Rattle.vms_locks.specs.Table.{Table, table_of, queues_at, is_listed}
use Rattle.vms_locks.specs.Places.{place_of}
use Rattle.vms_locks.proofs.Queued.{released-queued}
use Rattle.vms_locks.proofs.Granting.{live-after_deq}
use Rattle.vms_locks.proofs.Owned.{owners-changed}
use Rattle.vms_locks.proofs.Known.{places-reviewed}
use Rattle.vms_locks.proofs.Listed.{listed-kept}
use Rattle.vms_locks.proofs.locks.Locks.deq.Goals as goal

pub invariant_of-self : goal.invariant_of-self
invariant_of-self c =
    let old : Table = table_of c.self.inside.table in
    let new : Table = table_of c.release_at.new.table in
    let node = c.args.node in
    let q : Queues = after_release (queues_at old node) c.args.owner in (
      live-after_deq old new node c.args.owner
          c.self.invariant.0 c.release_at.ensures.after,
      c.release_at.ensures.used c.self.invariant.1,
      owners-changed old new node q c.release_at.ensures.after c.self.invariant.2 (after_release-owners (queues_at old node) c.args.owner (c.self.invariant.2 node)),
      places-reviewed old new (place_of c.self.inside.places) c.self.invariant.3 node q c.release_at.ensures.after (place_of c.review.new.places)
          (released-queued (queues_at old node) c.args.owner) c.review.ensures,
    )

pub returns-clause-lists : goal.returns-clause-lists
returns-clause-lists c =
    let old : Table = table_of c.self.inside.table in
    let new : Table = table_of c.release_at.new.table in
    let node = c.args.node in
    subst (λ (t : Table). (n : Node) → is_listed new n ≡ true → is_listed t n ≡ true) c.self.view_is
    (listed-kept old new node (after_release (queues_at old node) c.args.owner) c.release_at.ensures.after (c.release_at.ensures.used c.self.invariant.1)
    (λ empty. ap (λ (q : Queues). after_release q c.args.owner) empty))
