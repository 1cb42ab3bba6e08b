use Rattle.std.proofs.Common.{sym, ◌∙◌, arith}
use Rattle.std.proofs.lemmas.Bool.{false≢true, and_parts}
use Rattle.rdb_types.specs.declared.node.Level.TheVariants.{Line}
use Rattle.lock_needs.specs.Nodes.{is_above}
use Rattle.lock_tree_laws.proofs.Leaving.{climbed, closed, up-quiet}
use Rattle.lock_tree_laws.specs.LockTable.{granted_at, sought_at}
use Rattle.lock_tree_laws.proofs.Spared.{up-apart, spare-left}
use Rattle.lock_tree_laws.proofs.WayMade.{way-then}
use Rattle.lock_tree_laws.proofs.ServedInOrder.{stands-climbed, stands-closed}
use Rattle.lock_tree.proofs.ending.end_want.Goals as goal

pub returns-in_default-clause-ended : goal.returns-in_default-clause-ended
returns-in_default-clause-ended c =
    closed (granted_at c.leave_node.new.locks c.args.owner) (sought_at c.leave_node.new.locks c.args.owner) c.args.party.now.needs c.loop-up.left (sym c.node_above.ensures ∙ c.in_default.is) c.leave_node.ensures.left

pub returns-in_default-clause-others : goal.returns-in_default-clause-others
returns-in_default-clause-others c = λ u q d k. c.leave_node.ensures.others u q d (c.loop-up.invariant.3 u q d k)

pub loop-up-preserved : goal.loop-up-preserved
loop-up-preserved c =
    let e = sym c.node_above.ensures ∙ c.in-Some.is in
    let up = climbed (granted_at c.leave_node.new.locks c.args.owner) (sought_at c.leave_node.new.locks c.args.owner) c.args.party.now.needs c.loop-up.left c.in-Some.up e c.leave_node.ensures.left c.leave_node.ensures.left.way in (
      c.leave_node.ensures.intents,
      up,
      up-quiet c.leave_node.new.locks c.args.owner c.args.party.now.needs c.loop-up.left c.in-Some.up c.leave_node.ensures.left,
      λ u q d k. c.leave_node.ensures.others u q d (c.loop-up.invariant.3 u q d k),
      way-then c.args.owner c.args.locks.now c.loop-up.locks c.leave_node.new.locks c.loop-up.invariant.4 c.leave_node.ensures.way,
      λ s. stands-climbed c.leave_node.new.locks c.args.owner c.args.party.now.needs c.loop-up.left c.in-Some.up e c.leave_node.ensures.left (c.leave_node.ensures.leaves (c.loop-up.invariant.5 s)),
      spare-left c.args.locks.now c.loop-up.locks c.leave_node.new.locks c.args.party.now.needs c.loop-up.left c.loop-up.invariant.6 c.loop-up.invariant.7 c.leave_node.ensures.spare c.leave_node.ensures.none_used,
      λ s. absurd (false≢true (sym (up-apart c.loop-up.left c.in-Some.up e c.leave_node.ensures.left.way) ∙ (and_parts (is_above c.in-Some.up.level Line) _ s).1)),
    )

pub returns-in_default-clause-way : goal.returns-in_default-clause-way
returns-in_default-clause-way c = way-then c.args.owner c.args.locks.now c.loop-up.locks c.leave_node.new.locks c.loop-up.invariant.4 c.leave_node.ensures.way

pub returns-in_default-clause-rests : goal.returns-in_default-clause-rests
returns-in_default-clause-rests c = λ s.
    stands-closed c.leave_node.new.locks c.args.owner c.args.party.now.needs c.loop-up.left (sym c.node_above.ensures ∙ c.in_default.is) (c.leave_node.ensures.leaves (c.loop-up.invariant.5 s))

pub loop-up-init : goal.loop-up-init
loop-up-init c = (
  c.stop_asking-left.ensures.intents,
  (c.stop_asking-left.ensures.kept c.args.party.now.needs c.requires.kept).0,
  (c.stop_asking-left.ensures.kept c.args.party.now.needs c.requires.kept).1,
  c.stop_asking-left.ensures.others,
  c.stop_asking-left.ensures.way,
  c.stop_asking-left.ensures.stands_still c.args.party.now.needs,
  omega (arith, c.stop_asking-left.ensures.spare),
  λ s. c.stop_asking-left.ensures.spare,
)

pub leave_node-requires-clause-room : goal.leave_node-requires-clause-room
leave_node-requires-clause-room c = λ s. omega (arith, c.loop-up.invariant.7 s, c.requires.room)

pub returns-in_default-clause-spare : goal.returns-in_default-clause-spare
returns-in_default-clause-spare c =
    spare-left c.args.locks.now c.loop-up.locks c.leave_node.new.locks c.args.party.now.needs c.loop-up.left c.loop-up.invariant.6 c.loop-up.invariant.7 c.leave_node.ensures.spare c.leave_node.ensures.none_used
