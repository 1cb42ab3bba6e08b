use Rattle.std.proofs.Common.{◌∙◌, sym}
use Rattle.rdb_evaluation.proofs.Ranks.{directed_decides, directed_more}
use Rattle.rdb_evaluation.proofs.sorting.directed.Goals as goal

pub returns-then-is_ne : goal.returns-then-is_ne
returns-then-is_ne c =
    directed_decides c.args.directions.now c.args.a.now c.args.b.now c.loop-at.at _ c.rank_at.result c.turned-order.result c.loop-at-test.true c.loop-at.invariant c.rank_at.ensures c.turned-order.ensures
    (sym c.is_ne.ensures ∙ c.if-is_ne.true)

pub loop-at-preserved : goal.loop-at-preserved
loop-at-preserved c =
    directed_more c.args.directions.now c.args.a.now c.args.b.now c.loop-at.at _ c.rank_at.result c.turned-order.result c.loop-at-test.true c.loop-at.invariant c.rank_at.ensures c.turned-order.ensures
    (sym c.is_ne.ensures ∙ c.if-is_ne.false)
