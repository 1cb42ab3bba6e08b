use Rattle.std.proofs.Common.{sym}
use Rattle.std.proofs.lemmas.Bool.{false≢true}
use Rattle.vms_locks.specs.Table.{queues_at}
use Rattle.lock_tree_laws.proofs.HeldModes.{mode-has_owner}
use Rattle.lock_tree_laws.proofs.Owned.{owner-of}
use Rattle.lock_tree.proofs.holding.granted_of.Goals as goal

pub returns-in-Some-clause-owner : goal.returns-in-Some-clause-owner
returns-in-Some-clause-owner c = λ h.
    let held = (queues_at c.args.locks.now c.args.node).granted in
    owner-of c.args.owner held (c.in-Some.ensures.owners c.args.node).granted (mode-has_owner c.args.owner held c.in-Some.mode (sym c.in-Some.ensures.value))

pub returns-in-None-clause-owner : goal.returns-in-None-clause-owner
returns-in-None-clause-owner c = λ h. absurd (false≢true (sym h))
