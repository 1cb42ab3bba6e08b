use Rattle.index_ahead.specs.Ahead.{IsUnknownIn}
use Rattle.index_ahead.proofs.Added.{kept, then_added}
use Rattle.index_ahead.proofs.ahead.+add_below.Goals as goal

pub loop-next-init : goal.loop-next-init
loop-next-init g t c = kept (IsUnknownIn (g.V.View.knows c.args.view.now) c.args.area) c.args.keys.now.keys

pub loop-next-preserved-in_default-2 : goal.loop-next-preserved-in_default-2
loop-next-preserved-in_default-2 g t c =
    then_added (IsUnknownIn (g.V.View.knows c.args.view.now) c.args.area) c.args.keys.now.keys c.loop-next.keys.keys c.node_above_leaves.new.keys.keys c.loop-next.invariant c.in_ok-below.ensures.adds

pub loop-next-preserved : goal.loop-next-preserved
loop-next-preserved g t c =
    let Is = IsUnknownIn (g.V.View.knows c.args.view.now) c.args.area in
    let own = then_added Is c.args.keys.now.keys c.loop-next.keys.keys c.node_above_leaves.new.keys.keys c.loop-next.invariant c.in_ok-below.ensures.adds in
    then_added Is c.args.keys.now.keys c.node_above_leaves.new.keys.keys c.add_below.new.keys.keys own c.in_ok-add_below.ensures
