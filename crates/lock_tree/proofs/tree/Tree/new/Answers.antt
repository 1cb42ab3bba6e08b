use Rattle.lock_tree.specs.States.{state_of}
use Rattle.lock_tree_laws.proofs.Whole.{whole-empty}
use Rattle.lock_tree.proofs.tree.Tree.new.Goals as goal

pub invariant_of-result : goal.invariant_of-result
invariant_of-result c = whole-empty (state_of (record { locks = c.new.result; parties = c.new-2.result; trail = c.new-3.result })) c.new.ensures c.new-2.ensures.empty c.new-3.ensures.items
