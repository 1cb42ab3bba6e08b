use Rattle.std.proofs.Common.{◌≡◌, [], ◌∷◌, ap, ◌∙◌}
use Rattle.rdo_values.specs.declared.bound.BoundExpression as tree
use Rattle.rdo_bind.specs.declared.action.BoundPrintItem.TheVariants.{Value}
use Rattle.rdo_acts.specs.Looking.{IsReadBy}
use Rattle.rdo_acts.specs.Selections.{chosen_in_items}
use Rattle.index_ahead.proofs.Added.{kept}
use Rattle.rdo_acts.proofs.LookedThrough.{if_ok, count_read, count_bound, statistic_read, statistic_bound}
use Rattle.rdo_acts.proofs.looking.look_at_item.Goals as goal

pub returns-in-Value-Count : goal.returns-in-Value-Count
returns-in-Value-Count c ta vs shown bound own =
    let arm = c.in-Value-Count in
    let sources = c.args.sight.sources.now.entries in
    let item = c.args.item.now in
    let i = arm.inner in
    let inner : arm.field-0 ≡ tree.Count i = rw arm.is at arm.field-0-is in
    let is : item ≡ Value (tree.Count i) = arm.is ∙ ap Value inner in
    let j = c.get.result.now in
    if_ok c.look_into.result _ _
    (λ added. count_read ta sources vs item i j c.args.keys.now.keys c.look_into.new.keys.keys is c.get.ensures added)
    (c.look_into.ensures ta vs shown (count_bound ta vs item i j is c.get.ensures bound) own)

pub returns-in-Value-Statistic : goal.returns-in-Value-Statistic
returns-in-Value-Statistic c ta vs shown bound own =
    let arm = c.in-Value-Statistic in
    let sources = c.args.sight.sources.now.entries in
    let item = c.args.item.now in
    let kind = arm.field-0-0 in
    let e = arm.field-0-1 in
    let i = arm.inner in
    let inner : arm.field-0 ≡ tree.Statistic kind e i = rw arm.is at arm.field-0-is in
    let is : item ≡ Value (tree.Statistic kind e i) = arm.is ∙ ap Value inner in
    let j = c.get-in-Value-Statistic.result.now in
    if_ok c.look_into-in-Value-Statistic.result _ _
    (λ added. statistic_read ta sources vs item kind e i j c.args.keys.now.keys c.look_into-in-Value-Statistic.new.keys.keys is c.get-in-Value-Statistic.ensures added)
    (c.look_into-in-Value-Statistic.ensures ta vs shown (statistic_bound ta vs item kind e i j is c.get-in-Value-Statistic.ensures bound) own)

pub returns-in_default : goal.returns-in_default
returns-in_default c ta vs shown bound own = kept (IsReadBy ta c.args.sight.sources.now.entries (chosen_in_items (c.args.item.now ∷ []) vs)) c.args.keys.now.keys

pub returns-in_default-2 : goal.returns-in_default-2
returns-in_default-2 c ta vs shown bound own = kept (IsReadBy ta c.args.sight.sources.now.entries (chosen_in_items (c.args.item.now ∷ []) vs)) c.args.keys.now.keys
