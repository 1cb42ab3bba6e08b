use Rattle.std.proofs.Common.{◌≡◌, sym, ◌∙◌, subst, true, Option}
use Rattle.std.specs.Prelude.{unwrap_or}
use Rattle.vms_queues.specs.declared.lock_mode.Mode.{Mode}
use Rattle.vms_queues.specs.declared.lock_mode.Mode.TheVariants.{NL}
use Rattle.vms_queues.specs.Modes.{at_most}
use Rattle.vms_locks.specs.Table.{queues_at}
use Rattle.vms_locks.proofs.Granting.{live-after_deq, live-after_weaken}
use Rattle.lock_tree_laws.specs.LockTable.{LoweredAt, granted_at}
use Rattle.lock_needs.proofs.Joins.{nothing}
use Rattle.lock_tree_laws.proofs.HeldModes.{covers-less}
use Rattle.lock_tree_laws.proofs.Changes.{nothing-mode, weakened-law, released-law}
use Rattle.lock_tree_laws.proofs.OrderedRequests.{weakened-order, released-order}
use Rattle.lock_tree_laws.proofs.WayMade.{something-mode, way-none, way-lowered}
use Rattle.lock_tree.proofs.holding.lower.Goals as goal

pub weaken-requires : goal.weaken-requires
weaken-requires c =
    covers-less c.args.owner (queues_at c.args.locks.now c.args.node).granted c.in-Some-2.field-0 c.args.mode (sym c.in-Some-2.ensures.value)
    (subst (λ (x : Option Mode). at_most c.args.mode (unwrap_or x NL) ≡ true) (sym c.in-Some-2.ensures.value) c.requires.weaker)

pub returns-in-Some-clause-lowered : goal.returns-in-Some-clause-lowered
returns-in-Some-clause-lowered c =
    subst (λ (m : Mode). LoweredAt c.args.locks.now c.deq.new.self c.args.owner c.args.node m) (sym (nothing-mode c.args.mode (sym c.eq.ensures ∙ c.if-eq.true)))
    (released-law c.args.locks.now c.deq.new.self c.args.owner c.args.node c.in-Some.ensures.live c.deq.ensures.after)

pub returns-in-Some-2-clause-lowered : goal.returns-in-Some-2-clause-lowered
returns-in-Some-2-clause-lowered c =
    weakened-law c.args.locks.now c.weaken.new.self c.args.owner c.args.node c.in-Some-2.ensures.live c.args.mode c.in-Some-2.field-0 (sym c.in-Some-2.ensures.value)
    (subst (λ (x : Option Mode). at_most c.args.mode (unwrap_or x NL) ≡ true) (sym c.in-Some-2.ensures.value) c.requires.weaker)
    c.requires.awake c.weaken.ensures.after

pub returns-in-None-clause-way : goal.returns-in-None-clause-way
returns-in-None-clause-way c = way-none c.args.owner c.args.locks.now

pub returns-in-Some-clause-way : goal.returns-in-Some-clause-way
returns-in-Some-clause-way c =
    way-lowered c.args.owner c.args.locks.now c.deq.new.self c.args.node NL
    (released-order c.args.locks.now c.deq.new.self c.args.owner c.args.node c.in-Some.ensures.live c.deq.ensures.after)
    (λ l. live-after_deq c.args.locks.now c.deq.new.self c.args.node c.args.owner l c.deq.ensures.after)
    (released-law c.args.locks.now c.deq.new.self c.args.owner c.args.node c.in-Some.ensures.live c.deq.ensures.after)
    (nothing (granted_at c.args.locks.now c.args.owner c.args.node))

pub returns-in-Some-2-clause-way : goal.returns-in-Some-2-clause-way
returns-in-Some-2-clause-way c =
    let weaker = subst (λ (x : Option Mode). at_most c.args.mode (unwrap_or x NL) ≡ true) (sym c.in-Some-2.ensures.value) c.requires.weaker in
    way-lowered c.args.owner c.args.locks.now c.weaken.new.self c.args.node c.args.mode
    (weakened-order c.args.locks.now c.weaken.new.self c.args.owner c.args.node c.in-Some-2.ensures.live c.args.mode c.in-Some-2.field-0 (sym c.in-Some-2.ensures.value)
    weaker (something-mode c.args.mode (sym c.eq.ensures ∙ c.if-eq.false)) c.requires.awake c.weaken.ensures.after)
    (λ l. live-after_weaken c.args.locks.now c.weaken.new.self c.args.node c.args.owner c.args.mode (covers-less c.args.owner (queues_at c.args.locks.now c.args.node).granted c.in-Some-2.field-0 c.args.mode (sym c.in-Some-2.ensures.value) weaker) l c.weaken.ensures.after)
    (weakened-law c.args.locks.now c.weaken.new.self c.args.owner c.args.node c.in-Some-2.ensures.live c.args.mode c.in-Some-2.field-0 (sym c.in-Some-2.ensures.value)
    weaker c.requires.awake c.weaken.ensures.after)
    c.requires.weaker
