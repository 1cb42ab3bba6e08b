use Rattle.std.proofs.Common.{[], drop, sym, ap, ◌∙◌, arith}
use Rattle.std.proofs.lemmas.List.{drop_all, drop_more}
use Rattle.rdb_types.specs.declared.values.Value.TheVariants.{Missing}
use Rattle.rdb_types.specs.Order.{row_order}
use Rattle.rdb_types.proofs.order.row_order.Goals as goal

pub returns-then-a-b : goal.returns-then-a-b
returns-then-a-b c =
    let at = c.loop-at.at in
    sym (c.loop-at.invariant ∙ ap (λ xs. row_order xs (drop at c.args.b.now)) (drop_all at c.args.a.now (omega arith)) ∙ ap (row_order []) (drop_more c.args.b.now at Missing (omega arith)))
