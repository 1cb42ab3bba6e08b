use Rattle.std.proofs.Common.{sym, ◌∙◌, true, false}
use Rattle.vms_locks.proofs.Granting.{live-after_cancel}
use Rattle.lock_tree_laws.specs.LockTable.{granted_at}
use Rattle.lock_tree_laws.proofs.Brought.{lowered-others}
use Rattle.lock_tree_laws.proofs.Changes.{cancelled-law}
use Rattle.lock_tree_laws.proofs.Leaving.{granted-quiet, woken-up, cancelled-intents, tested-mode}
use Rattle.lock_tree_laws.proofs.OrderedRequests.{cancelled-order}
use Rattle.lock_tree_laws.proofs.WayMade.{way-none, way-lowered}
use Rattle.lock_tree_laws.proofs.ServedInOrder.{stands-cancelled}
use Rattle.lock_needs.proofs.ModeTables.{at_most-refl}
use Rattle.lock_tree.proofs.ending.stop_asking.Goals as goal

pub returns-then-is_at_most-clause-kept : goal.returns-then-is_at_most-clause-kept
returns-then-is_at_most-clause-kept c =
    λ ws k. (
      k,
      granted-quiet c.args.locks.now c.args.owner ws c.args.want k
          (tested-mode c.mode_for.result c.granted_of-held.result _ _ c.is_at_most.result true c.mode_for.ensures c.granted_of-held.ensures.value c.is_at_most.ensures.table c.if-is_at_most.true),
    )

pub returns-clause-kept : goal.returns-clause-kept
returns-clause-kept c =
    let low = cancelled-law c.args.locks.now c.cancel.new.self c.args.owner c.args.want.here c.granted_of-held.ensures.live c.cancel.ensures.after in
    λ ws k. (
      woken-up c.args.locks.now c.cancel.new.self c.args.owner ws c.args.want k
          (tested-mode c.mode_for.result c.granted_of-held.result _ _ c.is_at_most.result false c.mode_for.ensures c.granted_of-held.ensures.value c.is_at_most.ensures.table c.if-is_at_most.false) low,
      low.sought_own ∙ sym low.own,
    )

pub returns-clause-intents : goal.returns-clause-intents
returns-clause-intents c =
    cancelled-intents c.args.locks.now c.cancel.new.self c.args.owner c.args.want.here c.requires.intents
    (cancelled-law c.args.locks.now c.cancel.new.self c.args.owner c.args.want.here c.granted_of-held.ensures.live c.cancel.ensures.after)

pub returns-clause-others : goal.returns-clause-others
returns-clause-others c =
    lowered-others c.args.locks.now c.cancel.new.self c.args.owner c.args.want.here (granted_at c.args.locks.now c.args.owner c.args.want.here)
    (cancelled-law c.args.locks.now c.cancel.new.self c.args.owner c.args.want.here c.granted_of-held.ensures.live c.cancel.ensures.after) c.requires.intents

pub returns-then-is_at_most-clause-way : goal.returns-then-is_at_most-clause-way
returns-then-is_at_most-clause-way c = way-none c.args.owner c.args.locks.now

pub returns-clause-way : goal.returns-clause-way
returns-clause-way c =
    way-lowered c.args.owner c.args.locks.now c.cancel.new.self c.args.want.here (granted_at c.args.locks.now c.args.owner c.args.want.here)
    (cancelled-order c.args.locks.now c.cancel.new.self c.args.owner c.args.want.here c.granted_of-held.ensures.live c.cancel.ensures.after)
    (λ l. live-after_cancel c.args.locks.now c.cancel.new.self c.args.want.here c.args.owner l c.cancel.ensures.after)
    (cancelled-law c.args.locks.now c.cancel.new.self c.args.owner c.args.want.here c.granted_of-held.ensures.live c.cancel.ensures.after)
    (at_most-refl (granted_at c.args.locks.now c.args.owner c.args.want.here))

pub returns-clause-stands_still : goal.returns-clause-stands_still
returns-clause-stands_still c = λ ws.
    let low = cancelled-law c.args.locks.now c.cancel.new.self c.args.owner c.args.want.here c.granted_of-held.ensures.live c.cancel.ensures.after in
    stands-cancelled c.args.locks.now c.cancel.new.self c.args.owner ws c.args.want
    (way-lowered c.args.owner c.args.locks.now c.cancel.new.self c.args.want.here (granted_at c.args.locks.now c.args.owner c.args.want.here)
    (cancelled-order c.args.locks.now c.cancel.new.self c.args.owner c.args.want.here c.granted_of-held.ensures.live c.cancel.ensures.after)
    (λ l. live-after_cancel c.args.locks.now c.cancel.new.self c.args.want.here c.args.owner l c.cancel.ensures.after) low
    (at_most-refl (granted_at c.args.locks.now c.args.owner c.args.want.here)))
    (tested-mode c.mode_for.result c.granted_of-held.result _ _ c.is_at_most.result false c.mode_for.ensures c.granted_of-held.ensures.value c.is_at_most.ensures.table c.if-is_at_most.false)
