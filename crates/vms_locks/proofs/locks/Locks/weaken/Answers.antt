use Rattle.std.proofs.Common.{◌≡◌, true, ◌∙◌, ap, subst}
use Rattle.rdb_types.specs.declared.node.Node.{Node}
use Rattle.vms_queues.specs.Queues.{Queues, covers, after_weaken}
use Rattle.vms_queues.proofs.Entries.{covers-has_owner}
use Rattle.vms_queues.proofs.Owners.{after_weaken-owners}
use Rattle.vms_locks.specs.Table.{Table, table_of, queues_at, is_listed}
use Rattle.vms_locks.specs.Places.{place_of}
use Rattle.vms_locks.proofs.Queued.{weakened-queued}
use Rattle.vms_locks.proofs.Granting.{live-after_weaken}
use Rattle.vms_locks.proofs.Owned.{owners-changed}
use Rattle.vms_locks.proofs.Known.{places-reviewed}
use Rattle.vms_locks.proofs.Listed.{listed-changed, listed-held, listed-before}
use Rattle.vms_locks.proofs.locks.Locks.weaken.Goals as goal

pub invariant_of-self : goal.invariant_of-self
invariant_of-self c =
    let old : Table = table_of c.self.inside.table in
    let new : Table = table_of c.weaken_at.new.table in
    let node = c.args.node in
    let q : Queues = after_weaken (queues_at old node) c.args.owner c.args.mode in (
      live-after_weaken old new node c.args.owner c.args.mode (ap (λ (t : Table). covers c.args.owner c.args.mode (queues_at t c.args.node).granted) c.self.view_is ∙ c.requires)
          c.self.invariant.0 c.weaken_at.ensures.after,
      c.weaken_at.ensures.used c.self.invariant.1,
      owners-changed old new node q c.weaken_at.ensures.after c.self.invariant.2 (after_weaken-owners (queues_at old node) c.args.owner c.args.mode (c.self.invariant.2 node)),
      places-reviewed old new (place_of c.self.inside.places) c.self.invariant.3 node q c.weaken_at.ensures.after (place_of c.review.new.places)
          (weakened-queued (queues_at old node) c.args.owner c.args.mode) c.review.ensures,
    )

pub returns-clause-lists : goal.returns-clause-lists
returns-clause-lists c =
    let old : Table = table_of c.self.inside.table in
    let new : Table = table_of c.weaken_at.new.table in
    let node = c.args.node in
    let less : covers c.args.owner c.args.mode (queues_at old node).granted ≡ true = ap (λ (t : Table). covers c.args.owner c.args.mode (queues_at t node).granted) c.self.view_is ∙ c.requires in
    let held = listed-held old node c.args.owner (covers-has_owner c.args.owner c.args.mode (queues_at old node).granted less) in
    subst (λ (t : Table). (n : Node) → is_listed new n ≡ true → is_listed t n ≡ true) c.self.view_is
    (λ n h. listed-before old node held n
    (listed-changed old new node (after_weaken (queues_at old node) c.args.owner c.args.mode) c.weaken_at.ensures.after (c.weaken_at.ensures.used c.self.invariant.1) n h))
