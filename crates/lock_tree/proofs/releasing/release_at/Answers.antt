use Rattle.std.proofs.Common.{◌≡◌, sym, ◌∙◌, subst}
use Rattle.rdb_types.specs.declared.node.Node.{Node}
use Rattle.vms_queues.specs.declared.lock_mode.Mode.TheVariants.{NL}
use Rattle.lock_tree_laws.specs.LockTable.{granted_at}
use Rattle.lock_tree_laws.proofs.Released.{on-way, released-one}
use Rattle.lock_tree_laws.proofs.WayMade.{way-none}
use Rattle.lock_tree.proofs.releasing.release_at.Goals as goal

pub returns-then-eq-clause-releasing : goal.returns-then-eq-clause-releasing
returns-then-eq-clause-releasing c =
    released-one c.args.owner c.args.level c.args.locks.now c.lower.new.locks c.on_way-at.result c.requires.ready (sym c.eq.ensures ∙ c.if-eq.true) c.lower.ensures.lowered

pub returns-then-eq-clause-gone : goal.returns-then-eq-clause-gone
returns-then-eq-clause-gone c =
    λ x h s. subst (λ (z : Node). granted_at c.lower.new.locks c.args.owner z ≡ NL) (c.on_way-at.ensures ∙ sym (on-way c.args.level x c.args.node h s)) c.lower.ensures.lowered.own

pub returns-else-eq-clause-way : goal.returns-else-eq-clause-way
returns-else-eq-clause-way c = way-none c.args.owner c.args.locks.now
