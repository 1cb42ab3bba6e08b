use Rattle.std.proofs.Common.{◌≡◌, true, false, subst, sym, ◌∙◌, List, length, ◌+◌, ◌≤◌}
use Rattle.std.proofs.lemmas.Bool.{not-true}
use Rattle.vms_queues.specs.declared.lock_mode.Mode.{Mode}
use Rattle.vms_queues.specs.declared.lock_mode.Mode.TheVariants.{NL}
use Rattle.vms_queues.specs.Modes.{at_most}
use Rattle.lock_needs.specs.declared.need.Need.{Need}
use Rattle.lock_needs.specs.declared.party.OpenWant.{OpenWant}
use Rattle.lock_needs.specs.Needs.{all_covered, supposing}
use Rattle.lock_needs.specs.Keeping.{is_enough}
use Rattle.lock_tree_laws.specs.LockTable.{granted_at}
use Rattle.lock_tree_laws.specs.Inner.Lowering.{BroughtDown}
use Rattle.lock_tree_laws.specs.Parties.{IsKept, wanting}
use Rattle.lock_tree_laws.specs.Order.{StandsByNeeds}
use Rattle.lock_tree_laws.proofs.Brought.{brought-others, brought-intents}
use Rattle.lock_tree_laws.proofs.Leaving.{left-ready, left-enough, left-down, left-stays, left-none, never-asked_here, tested-held}
use Rattle.lock_tree_laws.proofs.Spared.{double-not, left-covered, room-left}
use Rattle.lock_tree_laws.proofs.WayMade.{way-none}
use Rattle.lock_tree_laws.proofs.ServedInOrder.{stands-left, stands-skipped, stands-none}
use Rattle.lock_tree.proofs.ending.leave_node.Goals as goal

pub bring_down-requires-clause-ready : goal.bring_down-requires-clause-ready
bring_down-requires-clause-ready c = left-ready c.args.locks.now c.args.locks.now c.args.owner c.args.party.now.needs c.args.want c.left_mode-keep.result c.left_mode-keep.ensures c.requires.intents c.requires.kept c.requires.quiet (tested-held c.left_mode-keep.result c.granted_of-held.result _ c.is_at_most-2.result true c.granted_of-held.ensures.value c.is_at_most-2.ensures.table c.if-is_at_most-2.true)

pub bring_down-requires-clause-enough : goal.bring_down-requires-clause-enough
bring_down-requires-clause-enough c =
    subst (λ (ws : List Need). is_enough (granted_at c.args.locks.now c.args.owner) ws c.args.want.here c.left_mode-keep.result ≡ true) (sym c.needs.ensures)
    (left-enough c.args.locks.now c.args.locks.now c.args.owner c.args.party.now.needs c.args.want c.left_mode-keep.result c.left_mode-keep.ensures c.requires.intents c.requires.kept c.requires.quiet)

pub returns-then-is_at_most-2-clause-left : goal.returns-then-is_at_most-2-clause-left
returns-then-is_at_most-2-clause-left c = left-down c.args.locks.now c.bring_down.new.locks c.args.owner c.args.party.now.needs c.args.want c.left_mode-keep.result c.left_mode-keep.ensures c.requires.intents c.requires.kept c.requires.quiet (subst (λ (ws : List Need). BroughtDown c.args.owner c.args.want.here c.left_mode-keep.result ws c.args.locks.now c.bring_down.new.locks) c.needs.ensures c.bring_down.ensures.down)

pub returns-then-is_at_most-2-clause-intents : goal.returns-then-is_at_most-2-clause-intents
returns-then-is_at_most-2-clause-intents c = brought-intents c.args.locks.now c.bring_down.new.locks c.args.owner c.args.want.here c.left_mode-keep.result c.args.party.now.needs (subst (λ (ws : List Need). BroughtDown c.args.owner c.args.want.here c.left_mode-keep.result ws c.args.locks.now c.bring_down.new.locks) c.needs.ensures c.bring_down.ensures.down)

pub returns-then-is_at_most-2-clause-others : goal.returns-then-is_at_most-2-clause-others
returns-then-is_at_most-2-clause-others c = brought-others c.args.locks.now c.bring_down.new.locks c.args.owner c.args.want.here c.left_mode-keep.result c.args.party.now.needs (subst (λ (ws : List Need). BroughtDown c.args.owner c.args.want.here c.left_mode-keep.result ws c.args.locks.now c.bring_down.new.locks) c.needs.ensures c.bring_down.ensures.down)

pub returns-else-is_at_most-2-clause-left : goal.returns-else-is_at_most-2-clause-left
returns-else-is_at_most-2-clause-left c = left-stays c.args.locks.now c.args.locks.now c.args.owner c.args.party.now.needs c.args.want c.left_mode-keep.result c.left_mode-keep.ensures c.requires.intents c.requires.kept c.requires.quiet (tested-held c.left_mode-keep.result c.granted_of-held.result _ c.is_at_most-2.result false c.granted_of-held.ensures.value c.is_at_most-2.ensures.table c.if-is_at_most-2.false)

pub returns-then-is_at_most-2-clause-leaves : goal.returns-then-is_at_most-2-clause-leaves
returns-then-is_at_most-2-clause-leaves c =
    stands-left c.args.locks.now c.bring_down.new.locks c.args.owner c.args.party.now.needs c.args.want c.left_mode-keep.result c.left_mode-keep.ensures c.bring_down.ensures.way (subst (λ (ws : List Need). BroughtDown c.args.owner c.args.want.here c.left_mode-keep.result ws c.args.locks.now c.bring_down.new.locks) c.needs.ensures c.bring_down.ensures.down)

pub returns-else-is_at_most-2-clause-way : goal.returns-else-is_at_most-2-clause-way
returns-else-is_at_most-2-clause-way c = way-none c.args.owner c.args.locks.now

pub returns-else-is_at_most-2-clause-leaves : goal.returns-else-is_at_most-2-clause-leaves
returns-else-is_at_most-2-clause-leaves c =
    stands-skipped c.args.locks.now c.args.owner c.args.party.now.needs c.args.want c.granted_of-held.ensures.live c.requires.intents c.requires.kept c.left_mode-keep.result c.left_mode-keep.ensures
    (tested-held c.left_mode-keep.result c.granted_of-held.result _ c.is_at_most-2.result false c.granted_of-held.ensures.value c.is_at_most-2.ensures.table c.if-is_at_most-2.false)

pub bring_down-requires-clause-owner : goal.bring_down-requires-clause-owner
bring_down-requires-clause-owner c = c.granted_of-held.ensures.owner (sym c.is_at_most.ensures.table ∙ c.if-is_at_most.false)

pub bring_down-requires-clause-room : goal.bring_down-requires-clause-room
bring_down-requires-clause-room c = λ some.
    subst (λ (ws : List Need). length ws ≤ c.args.locks.now.spare) (sym c.needs.ensures)
    (room-left c.args.locks.now c.args.owner c.args.party.now.needs c.args.want c.left_mode-keep.result c.left_mode-keep.ensures c.requires.kept (double-not c.args.want.is_asked c.if-not-want.false) c.requires.room
    (subst (λ (ws : List Need). all_covered (supposing c.args.want.here c.left_mode-keep.result (granted_at c.args.locks.now c.args.owner)) ws ≡ false) c.needs.ensures some))

pub returns-then-not-want-clause-left : goal.returns-then-not-want-clause-left
returns-then-not-want-clause-left c =
    subst (λ (w : OpenWant). IsKept c.args.locks.now c.args.owner (wanting c.args.party.now.needs w)) (never-asked_here c.args.want (not-true c.args.want.is_asked c.if-not-want.true)) c.requires.kept

pub returns-then-not-want-clause-way : goal.returns-then-not-want-clause-way
returns-then-not-want-clause-way c = way-none c.args.owner c.args.locks.now

pub returns-then-not-want-clause-leaves : goal.returns-then-not-want-clause-leaves
returns-then-not-want-clause-leaves c = λ s.
    subst (λ (w : OpenWant). StandsByNeeds c.args.locks.now c.args.owner (wanting c.args.party.now.needs w)) (never-asked_here c.args.want (not-true c.args.want.is_asked c.if-not-want.true)) s

pub returns-then-is_at_most-clause-left : goal.returns-then-is_at_most-clause-left
returns-then-is_at_most-clause-left c =
    left-none c.args.locks.now c.args.locks.now c.args.owner c.args.party.now.needs c.args.want c.requires.intents c.requires.kept c.requires.quiet
    (subst (λ (m : Mode). at_most m NL ≡ true) c.granted_of-held.ensures.value (sym c.is_at_most.ensures.table ∙ c.if-is_at_most.true))

pub returns-then-is_at_most-clause-way : goal.returns-then-is_at_most-clause-way
returns-then-is_at_most-clause-way c = way-none c.args.owner c.args.locks.now

pub returns-then-is_at_most-clause-leaves : goal.returns-then-is_at_most-clause-leaves
returns-then-is_at_most-clause-leaves c =
    stands-none c.args.locks.now c.args.owner c.args.party.now.needs c.args.want
    (subst (λ (m : Mode). at_most m NL ≡ true) c.granted_of-held.ensures.value (sym c.is_at_most.ensures.table ∙ c.if-is_at_most.true))

pub returns-then-is_at_most-2-clause-spare : goal.returns-then-is_at_most-2-clause-spare
returns-then-is_at_most-2-clause-spare c = subst (λ (ws : List Need). c.args.locks.now.spare ≤ c.bring_down.new.locks.spare + length ws) c.needs.ensures c.bring_down.ensures.spare

pub returns-then-is_at_most-2-clause-none_used : goal.returns-then-is_at_most-2-clause-none_used
returns-then-is_at_most-2-clause-none_used c = λ none.
    c.bring_down.ensures.none_used
    (subst (λ (ws : List Need). all_covered (supposing c.args.want.here c.left_mode-keep.result (granted_at c.args.locks.now c.args.owner)) ws ≡ true) (sym c.needs.ensures)
    (left-covered c.args.locks.now c.args.owner c.args.party.now.needs c.args.want c.left_mode-keep.result c.left_mode-keep.ensures c.requires.kept (double-not c.args.want.is_asked c.if-not-want.false) none))
