use Rattle.std.proofs.Common.{List, sym, subst}
use Rattle.rdb_types.specs.declared.keys.Dbkey.{Dbkey}
use Rattle.rdb_types.specs.Order.{dbkey_order}
use Rattle.index_ahead.specs.Added.{AddsOnly}
use Rattle.index_ahead.specs.Ahead.{IsUnknownIn}
use Rattle.index_ahead.proofs.Added.{kept, inserted}
use Rattle.index_ahead.proofs.ahead.node_above_leaves.Goals as goal

pub returns-in_ok-_is_new-in-Unknown-clause-adds : goal.returns-in_ok-_is_new-in-Unknown-clause-adds
returns-in_ok-_is_new-in-Unknown-clause-adds g c =
    let Is = IsUnknownIn (g.V.View.knows c.args.view.now) c.args.area in
    subst (λ (ks : List Dbkey). AddsOnly Is c.args.keys.now.keys ks) (sym c.in_ok-_is_new-in-Unknown.ensures.keys)
    (inserted Is dbkey_order c.args.at (c.if-at-area.true, c.in-Unknown.ensures) c.args.keys.now.keys)

pub returns-in-Present-clause-adds : goal.returns-in-Present-clause-adds
returns-in-Present-clause-adds g c = kept (IsUnknownIn (g.V.View.knows c.args.view.now) c.args.area) c.args.keys.now.keys

pub returns-in_default-clause-adds : goal.returns-in_default-clause-adds
returns-in_default-clause-adds g c = kept (IsUnknownIn (g.V.View.knows c.args.view.now) c.args.area) c.args.keys.now.keys
