use Rattle.rdo_acts.specs.Looking.{IsReadBy}
use Rattle.rdo_acts.specs.Selections.{chosen_in_items}
use Rattle.index_ahead.proofs.Added.{kept, then_added}
use Rattle.rdo_acts.proofs.LookedThrough.{item_read, item_bound}
use Rattle.rdo_acts.proofs.looking.look_at_items.Goals as goal

pub loop-item-init : goal.loop-item-init
loop-item-init c t vs shown bound own = kept (IsReadBy t c.args.sight.sources.now.entries (chosen_in_items c.args.items.now vs)) c.args.keys.now.keys

pub loop-item-preserved : goal.loop-item-preserved
loop-item-preserved c t vs shown bound own =
    let sources = c.args.sight.sources.now.entries in
    let items = c.args.items.now in
    let i = c.loop-item.item-index in
    let x = c.item-item.result in
    then_added (IsReadBy t sources (chosen_in_items items vs)) c.args.keys.now.keys c.loop-item.keys.keys c.look_at_item.new.keys.keys (c.loop-item.invariant t vs shown bound own)
    (item_read t sources vs items i x c.loop-item.keys.keys c.look_at_item.new.keys.keys c.loop-item-test.true c.item-item.is
    (c.in_ok-look_at_item.ensures t vs shown (item_bound t vs items i x bound c.loop-item-test.true c.item-item.is) own))
