use Rattle.std.proofs.Common.{List, rules, subst}
use Rattle.index_writes.proofs.Defined.{filled_from, reading_stops}
use Rattle.relation_rows.specs.declared.stored.StoredRow.{StoredRow}
use Rattle.index_writes.specs.Areas.{FillKeeps}
use Rattle.index_writes.proofs.Kept.{reading_kept, from_rows_kept}
use Rattle.index_writes.proofs.definition.fill_from_rows.Goals as goal

pub returns-in-Err-clause-fills : goal.returns-in-Err-clause-fills
returns-in-Err-clause-fills c = reading_stops c.args.view.now c.args.view.now c.args.schema.now c.args.relation.now c.args.writes.now c.in-Err.stop c.of_view.result c.in-Err.ensures.reads c.of_view.ensures

pub returns-clause-fills : goal.returns-clause-fills
returns-clause-fills c =
    filled_from c.args.view.now c.fill.new.view c.args.schema.now c.args.relation.now c.args.writes.now c.in_ok-index.index c.in-Ok.rows c.fill.result c.in-Ok.ensures.reads c.in_ok-index.ensures (search rules)

pub returns-in-Err-clause-areas : goal.returns-in-Err-clause-areas
returns-in-Err-clause-areas c = reading_kept c.args.view.now c.args.view.now c.args.schema.now c.args.relation.now c.args.writes.now c.in-Err.stop c.of_view.result c.in-Err.ensures.areas c.of_view.ensures

pub returns-clause-areas : goal.returns-clause-areas
returns-clause-areas c =
    from_rows_kept c.args.view.now c.fill.new.view c.args.schema.now c.args.relation.now c.args.writes.now c.in_ok-index.index c.in-Ok.rows c.fill.result c.in-Ok.ensures.reads c.in_ok-index.ensures
    (subst (λ (rows : List StoredRow). FillKeeps c.args.view.now c.fill.new.view c.in_ok-index.index rows c.fill.result) (search rules) c.fill.ensures.areas)
