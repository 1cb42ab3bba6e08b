use Rattle.index_node.proofs.Nodes.{ascends_none, ascends_more, ascends_all}
use Rattle.index_node.proofs.node.is_ascending.Goals as goal

pub loop-next-init : goal.loop-next-init
loop-next-init c = ascends_none c.args.entries.now

pub loop-next-preserved : goal.loop-next-preserved
loop-next-preserved c = ascends_more c.args.entries.now c.loop-next.next c.index-entries-next.result c.index-entries-next-in-loop-next.result c.precedes.result c.loop-next.auto.next c.loop-next-test.true
    c.index-entries-next.is c.index-entries-next-in-loop-next.is c.precedes.ensures c.if-not-precedes.false c.loop-next.invariant

pub returns-clause-yes : goal.returns-clause-yes
returns-clause-yes c = λ is. ascends_all c.args.entries.now c.loop-next.next c.loop-next-test.false c.loop-next.invariant
