use Rattle.node_search.proofs.Nodes.{one_counted, nothing_there, out_of_order, all_counted, in_order, if_none}
use Rattle.node_search.proofs.node.count_entries.Goals as goal

pub returns-in_err-found-clause-none : goal.returns-in_err-found-clause-none
returns-in_err-found-clause-none c =
    if_none c.from_residual.result _
    (λ all are ascending. nothing_there c.args.level c.args.bytes.now c.args.from c.loop-at.at c.loop-at.count c.loop-at.before c.loop-at-test.true (rw c.in_err-found.was at c.entry_at.ensures.none) c.loop-at.invariant all are)

pub returns-then-not-is_in_order-clause-none : goal.returns-then-not-is_in_order-clause-none
returns-then-not-is_in_order-clause-none c =
    let found = c.in_ok-found.found in
    let stands = c.in_ok-found.ensures.found in
    out_of_order c.args.level c.args.bytes.now c.args.from c.loop-at.at found.end c.loop-at.count c.loop-at.before found.entry stands.0 c.is_in_order.result stands.1.0 stands.1.1
    (in_order c.loop-at.before found.entry c.is_in_order.result c.is_in_order.ensures.first c.is_in_order.ensures.later) c.if-not-is_in_order.true c.loop-at.invariant

pub loop-at-preserved : goal.loop-at-preserved
loop-at-preserved c =
    let found = c.in_ok-found.found in
    let stands = c.in_ok-found.ensures.found in
    one_counted c.args.level c.args.bytes.now c.args.from c.loop-at.at found.end c.loop-at.count c.loop-at.before found.entry stands.0 c.is_in_order.result stands.1.0 stands.1.1
    (in_order c.loop-at.before found.entry c.is_in_order.result c.is_in_order.ensures.first c.is_in_order.ensures.later) c.if-not-is_in_order.false c.loop-at.invariant

pub returns-clause-found : goal.returns-clause-found
returns-clause-found c = all_counted c.args.level c.args.bytes.now c.args.from c.loop-at.at c.loop-at.count c.loop-at.before c.loop-at-test.false c.loop-at.invariant
