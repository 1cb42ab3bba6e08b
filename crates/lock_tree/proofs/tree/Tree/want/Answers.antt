use Rattle.std.proofs.Common.{subst}
use Rattle.std.specs.Prelude.{IfOk}
use Rattle.lock_tree_laws.specs.Forest.{State}
use Rattle.lock_tree_laws.specs.Progress.{LeavesLocks}
use Rattle.lock_tree.proofs.tree.Tree.want.Goals as goal

pub returns-clause-no_weaker : goal.returns-clause-no_weaker
returns-clause-no_weaker c = subst (λ (s : State). IfOk c.want.result (λ a. LeavesLocks c.args.owner s.table c.want.new.self.locks)) c.self.view_is c.want.ensures.no_weaker
