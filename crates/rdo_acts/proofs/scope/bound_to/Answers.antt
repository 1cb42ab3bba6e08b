use Rattle.std.proofs.Common.{rules}
use Rattle.rdo_acts.proofs.BoundTuple.{none_bound, one_bound, tuple_bound, variables_bound, rows_bound}
use Rattle.rdo_acts.proofs.scope.bound_to.Goals as goal

pub loop-at-init : goal.loop-at-init
loop-at-init c = none_bound c.args.scope.now c.args.ranges.now c.args.tuple.now c.in_ok-bound.bound c.in_ok-bound.ensures

pub loop-at-preserved : goal.loop-at-preserved
loop-at-preserved c =
    one_bound c.args.scope.now c.args.ranges.now c.args.tuple.now c.loop-at.bound c.push.new.self c.loop-at.at _ c.loop-at-test.true c.index-ranges-at.is c.in_ok-push.ensures.ok c.loop-at.invariant (search rules)

pub returns-clause-tuple : goal.returns-clause-tuple
returns-clause-tuple c = tuple_bound c.args.scope.now c.args.ranges.now c.args.tuple.now c.loop-at.bound c.loop-at.at c.loop-at-test.false c.loop-at.invariant

pub returns-clause-variables : goal.returns-clause-variables
returns-clause-variables c = variables_bound c.args.scope.now c.args.ranges.now c.args.tuple.now c.loop-at.bound c.loop-at.at c.loop-at-test.false c.loop-at.invariant

pub returns-clause-rows : goal.returns-clause-rows
returns-clause-rows c = rows_bound c.args.scope.now c.args.ranges.now c.args.tuple.now c.loop-at.bound c.loop-at.at c.loop-at-test.false c.loop-at.invariant
