use Rattle.std.proofs.Common.{subst}
use Rattle.lock_tree_laws.specs.LockTable.{AllShare}
use Rattle.lock_tree_laws.specs.Forest.{State, NeedsAreApart}
use Rattle.lock_tree_laws.proofs.Changes.{shares-live}
use Rattle.lock_tree_laws.proofs.Whole.{whole-apart}
use Rattle.lock_tree.proofs.tree.Tree.mode_of.Goals as goal

pub returns-clause-compatible : goal.returns-clause-compatible
returns-clause-compatible c =
    subst (λ (s : State). AllShare s.table) c.self.view_is
    (shares-live c.self.inside.parts.locks c.self.inside.parts.locks c.args.owner c.args.node c.granted_of.ensures.live)

pub returns-clause-apart : goal.returns-clause-apart
returns-clause-apart c =
    subst NeedsAreApart c.self.view_is
    (whole-apart (record { table = c.self.inside.parts.locks; parties = c.self.inside.parts.parties.entries; trail = c.self.inside.parts.trail.items }) c.self.invariant c.granted_of.ensures.live)
