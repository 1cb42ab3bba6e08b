use Rattle.lock_tree_laws.specs.Forest.{party_of}
use Rattle.room_steps.specs.Naming.{is_clear_of as is_clear_at}
use Rattle.room_steps.proofs.Clear.{IsBelow}
use Rattle.room_steps.proofs.naming.is_clear.Given as goal

abbrev pub invariant-loop-owner : goal.invariant-loop-owner
invariant-loop-owner l = IsBelow (λ t. is_clear_at (party_of l.tree.parties t) l.node) l.s.number l.owner
