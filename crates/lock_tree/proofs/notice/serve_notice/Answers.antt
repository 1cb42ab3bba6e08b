use Rattle.std.proofs.Common.{arith, false, sym, ◌∙◌, subst, List, length, ◌≤◌, ◌+◌}
use Rattle.lock_needs.specs.declared.need.Need.{Need}
use Rattle.lock_tree_laws.proofs.Brought.{excess-of, serving-ready, serving-enough, served-down, brought-others, brought-intents}
use Rattle.lock_tree_laws.proofs.Spared.{excess-some}
use Rattle.lock_tree_laws.proofs.WayMade.{way-none}
use Rattle.lock_tree_laws.proofs.ServedInOrder.{stands-served}
use Rattle.lock_tree_laws.proofs.ServedAt.{excess-is, served-nothing, served-lock}
use Rattle.lock_tree.proofs.notice.serve_notice.Goals as goal

pub bring_down-requires-clause-ready : goal.bring_down-requires-clause-ready
bring_down-requires-clause-ready c =
    serving-ready c.args.locks.now c.args.locks.now c.args.owner c.args.party.now c.args.node c.kept_mode-keep.result c.needs.result.now c.kept_mode-keep.ensures c.needs.ensures c.requires.intents c.requires.kept
    (excess-of c.granted_of-held.result c.kept_mode-keep.result _ _ c.is_excess.result c.granted_of-held.ensures.value c.kept_mode-keep.ensures c.is_excess.ensures (grind (arith, c.if-not-is_excess.false)))

pub bring_down-requires-clause-enough : goal.bring_down-requires-clause-enough
bring_down-requires-clause-enough c =
    serving-enough c.args.locks.now c.args.locks.now c.args.owner c.args.party.now c.args.node c.kept_mode-keep.result c.needs.result.now c.kept_mode-keep.ensures c.needs.ensures c.requires.intents c.requires.kept
    (excess-of c.granted_of-held.result c.kept_mode-keep.result _ _ c.is_excess.result c.granted_of-held.ensures.value c.kept_mode-keep.ensures c.is_excess.ensures (grind (arith, c.if-not-is_excess.false)))

pub returns-clause-intents : goal.returns-clause-intents
returns-clause-intents c = brought-intents c.args.locks.now c.bring_down.new.locks c.args.owner c.args.node c.kept_mode-keep.result c.needs.result.now c.bring_down.ensures.down

pub returns-clause-kept : goal.returns-clause-kept
returns-clause-kept c =
    served-down c.args.locks.now c.bring_down.new.locks c.args.owner c.args.party.now c.args.node c.kept_mode-keep.result c.needs.result.now c.kept_mode-keep.ensures c.needs.ensures c.requires.intents c.requires.kept
    (excess-of c.granted_of-held.result c.kept_mode-keep.result _ _ c.is_excess.result c.granted_of-held.ensures.value c.kept_mode-keep.ensures c.is_excess.ensures (grind (arith, c.if-not-is_excess.false)))
    c.bring_down.ensures.down

pub returns-clause-others : goal.returns-clause-others
returns-clause-others c = brought-others c.args.locks.now c.bring_down.new.locks c.args.owner c.args.node c.kept_mode-keep.result c.needs.result.now c.bring_down.ensures.down

pub returns-then-not-is_excess-clause-way : goal.returns-then-not-is_excess-clause-way
returns-then-not-is_excess-clause-way c = way-none c.args.owner c.args.locks.now

pub returns-clause-stands : goal.returns-clause-stands
returns-clause-stands c =
    stands-served c.args.locks.now c.bring_down.new.locks c.args.owner c.args.node c.kept_mode-keep.result c.args.party.now c.needs.result.now c.requires.kept
    (excess-of c.granted_of-held.result c.kept_mode-keep.result _ _ c.is_excess.result c.granted_of-held.ensures.value c.kept_mode-keep.ensures c.is_excess.ensures (grind (arith, c.if-not-is_excess.false)))
    c.bring_down.ensures.way c.bring_down.ensures.down

pub bring_down-requires-clause-owner : goal.bring_down-requires-clause-owner
bring_down-requires-clause-owner c =
    c.granted_of-held.ensures.owner (excess-some c.granted_of-held.result c.kept_mode-keep.result (sym c.is_excess.ensures ∙ grind (arith, c.if-not-is_excess.false)))

pub bring_down-requires-clause-room : goal.bring_down-requires-clause-room
bring_down-requires-clause-room c = λ some.
    subst (λ (ws : List Need). length ws ≤ c.args.locks.now.spare) (sym c.needs.ensures)
    (c.requires.room (excess-of c.granted_of-held.result c.kept_mode-keep.result _ _ c.is_excess.result c.granted_of-held.ensures.value c.kept_mode-keep.ensures c.is_excess.ensures (grind (arith, c.if-not-is_excess.false))))

pub returns-clause-spare : goal.returns-clause-spare
returns-clause-spare c = subst (λ (ws : List Need). c.args.locks.now.spare ≤ c.bring_down.new.locks.spare + length ws) c.needs.ensures c.bring_down.ensures.spare

pub returns-then-not-is_excess-clause-served : goal.returns-then-not-is_excess-clause-served
returns-then-not-is_excess-clause-served c =
    served-nothing c.args.locks.now c.args.owner c.args.party.now c.args.node
    (excess-is c.granted_of-held.result c.kept_mode-keep.result _ _ c.is_excess.result false c.granted_of-held.ensures.value c.kept_mode-keep.ensures c.is_excess.ensures (grind (arith, c.if-not-is_excess.true)))

pub returns-clause-served : goal.returns-clause-served
returns-clause-served c =
    served-lock c.args.locks.now c.bring_down.new.locks c.args.owner c.args.party.now c.args.node c.kept_mode-keep.result _ c.kept_mode-keep.ensures
    (excess-of c.granted_of-held.result c.kept_mode-keep.result _ _ c.is_excess.result c.granted_of-held.ensures.value c.kept_mode-keep.ensures c.is_excess.ensures (grind (arith, c.if-not-is_excess.false)))
    c.bring_down.ensures.way c.bring_down.ensures.down
