use Rattle.std.proofs.Common.{inl}
use Rattle.workload_runs.proofs.Numbers.{are-wanted, not-wanted}
use Rattle.workload_runs.proofs.stand.are_used_up.Goals as goal

pub returns-then-has_spent-clause-yes : goal.returns-then-has_spent-clause-yes
returns-then-has_spent-clause-yes c journal next is = inl (c.has_spent.ensures.yes c.if-has_spent.true)

pub returns-clause-yes : goal.returns-clause-yes
returns-clause-yes c journal next is = are-wanted c.args.root.now journal c.args.next next (c.wants_more.ensures.yes is)

pub returns-clause-no : goal.returns-clause-no
returns-clause-no c journal next is = not-wanted c.args.root.now journal c.args.next next (c.has_spent.ensures.no c.if-has_spent.false) (c.wants_more.ensures.no is)
