-- What a request leaves of the locks of others: none is weaker.
use Rattle.std.proofs.Common.{◌≡◌, ℕ, Bool, true, false, sym, ◌∙◌, ap, subst}
use Rattle.std.specs.Prelude.{◌==◌, ◌&&◌, if◌then◌else◌}
use Rattle.rdb_types.specs.declared.node.Node.{Node}
use Rattle.vms_queues.specs.declared.lock_mode.Mode.{Mode}
use Rattle.vms_queues.specs.Modes.{at_most}
use Rattle.vms_locks.specs.Table.{Table}
use Rattle.vms_locks.specs.declared.answer.Enq.{Enq}
use Rattle.vms_locks.specs.declared.answer.Enq.TheVariants.{Granted, Asleep, NotQueued, Deadlock}
use Rattle.lock_needs.specs.Nodes.{same_node}
use Rattle.lock_needs.proofs.ModeTables.{at_most-refl, at_most-trans}
use Rattle.lock_tree_laws.specs.LockTable.{granted_at}
use Rattle.lock_tree_laws.specs.Progress.{LeavesLocks}
use Rattle.lock_tree_laws.specs.Asking.{AnswersAt}

alike-leaves : (old new : Table) (owner : ℕ) → ((u : ℕ) (x : Node) → (u == owner) ≡ false → granted_at new u x ≡ granted_at old u x) → LeavesLocks owner old new
alike-leaves old new owner same u x d = subst (λ (y : Mode). at_most (granted_at old u x) y ≡ true) (sym (same u x d)) (at_most-refl (granted_at old u x))

pub same-leaves : (old new : Table) (owner : ℕ) → new ≡ old → LeavesLocks owner old new
same-leaves old new owner e = alike-leaves old new owner (λ u x d. ap (λ (t : Table). granted_at t u x) e)

pub leaves-then : (old mid new : Table) (owner : ℕ) → LeavesLocks owner old mid → LeavesLocks owner mid new → LeavesLocks owner old new
leaves-then old mid new owner f g u x d = at_most-trans (granted_at old u x) (granted_at mid u x) (granted_at new u x) (f u x d) (g u x d)

pub answer-leaves : (old new : Table) (owner : ℕ) (n : Node) (mode : Mode) (wait : Bool) (answer : Enq) → AnswersAt old new owner n mode wait answer → LeavesLocks owner old new
answer-leaves old new owner n mode wait Granted h = alike-leaves old new owner (λ u x d. h.granted u x ∙ ap (λ (b : Bool). if b && same_node x n then mode else granted_at old u x) d)
answer-leaves old new owner n mode wait Asleep h = alike-leaves old new owner (λ u x d. h.1.granted u x)
answer-leaves old new owner n mode wait (NotQueued b) h = same-leaves old new owner h.1
answer-leaves old new owner n mode wait (Deadlock c) h = same-leaves old new owner h.1
