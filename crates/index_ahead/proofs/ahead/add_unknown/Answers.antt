use Rattle.std.proofs.Common.{OnOk, Result, Ok, Err}
use Rattle.index_ahead.specs.Ahead.{IsUnknownIn}
use Rattle.index_ahead.proofs.Added.{then_added}
use Rattle.index_ahead.proofs.ahead.add_unknown.Goals as goal

if_ok : {T E : Type 0} (r : Result T E) (P Q : Type 0) → (P → Q) → OnOk r P → OnOk r Q
if_ok (Ok x) P Q f h = f h
if_ok (Err e) P Q f h = tt

pub returns-in-Some : goal.returns-in-Some
returns-in-Some g c =
    let Is = IsUnknownIn (g.V.View.knows c.args.view.now) c.args.root.area in
    if_ok c.add_below.result _ _
    (then_added Is c.args.keys.now.keys c.node_above_leaves.new.keys.keys c.add_below.new.keys.keys c.in_ok-node.ensures.adds)
    c.add_below.ensures
