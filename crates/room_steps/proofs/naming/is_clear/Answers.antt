use Rattle.std.proofs.Common.{inl, inr, rules}
use Rattle.lock_tree_laws.specs.Forest.{party_of}
use Rattle.room_steps.specs.Naming.{is_clear_of as is_clear_at}
use Rattle.room_steps.proofs.Clear.{one-more}
use Rattle.room_steps.proofs.naming.is_clear.Goals as goal
use Rattle.room_steps.proofs.naming.is_clear.Goals.{else-owner-s-via-then-owner-s+else-not-is_clear_of, else-owner-s-via-else-owner-s}

pub loop-owner-preserved : goal.loop-owner-preserved
loop-owner-preserved c = one-more (λ t. is_clear_at (party_of c.args.tree.now.parties t) c.args.node) c.args.s.number c.loop-owner.owner c.loop-owner.invariant (elim c.else-owner-s.branch [
  | else-owner-s-via-then-owner-s+else-not-is_clear_of w ↦ inr (search rules)
  | else-owner-s-via-else-owner-s w ↦ inl (search rules)
])
