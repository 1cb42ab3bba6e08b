use Rattle.std.proofs.Common.{◌≡◌, drop}
use Rattle.lock_tree_laws.specs.Asking.{first_excess}
use Rattle.lock_tree.proofs.looking.find_excess.Given as goal

abbrev pub invariant-loop-other : goal.invariant-loop-other
invariant-loop-other l = first_excess l.locks l.parties.entries l.node (drop l.other-index l.other-items) ≡ first_excess l.locks l.parties.entries l.node l.other-items
