use Rattle.std.proofs.Common.{rules, Some, refl, sym, ap, subst, ◌∙◌}
use Rattle.std.specs.Prelude.{Err}
use Rattle.std.proofs.lemmas.Option.{slice_get-get_or}
use Rattle.row_writes.specs.Changes.{row_before, row_behind, ChangesPairs}
use Rattle.row_writes.specs.Areas.{PairsKeep}
use Rattle.row_writes.proofs.InTurn.{none_yet, one_more, one_stops, all_changed}
use Rattle.row_writes.proofs.RowKept.{none_written, one_keeps, one_stops_at}
use Rattle.row_writes.proofs.changes.change_pairs.Goals as goal

pub loop-place-init : goal.loop-place-init
loop-place-init c = record { some = none_yet c.args.view.now c.args.indexes.now (row_before c.args.change) (row_behind c.args.change) c.args.at; wrote = none_written c.args.view.now c.args.indexes.now (row_before c.args.change) (row_behind c.args.change) c.args.at; base = refl }

pub returns-in-Err-clause-changes : goal.returns-in-Err-clause-changes
returns-in-Err-clause-changes c =
    subst (λ s. ChangesPairs c.args.view.now c.change_pair.new.view c.args.indexes.now (row_before c.args.change) (row_behind c.args.change) c.args.at (Err s)) (sym c.row_stop.ensures)
    (one_stops c.args.view.now c.loop-place.view c.change_pair.new.view c.args.indexes.now c.loop-place.place c.index-indexes-place.result (row_before c.args.change) (row_behind c.args.change) c.args.at
    (search rules) c.index-indexes-place.is c.loop-place.invariant.some c.in-Err.stop (slice_get-get_or c.args.indexes.now c.loop-place.place c.index-indexes-place.result (search rules) ∙ ap Some (sym c.index-indexes-place.is)) c.loop-place.invariant.base c.in-Err.ensures.changes)

pub loop-place-preserved : goal.loop-place-preserved
loop-place-preserved c = record {
  some = one_more c.args.view.now c.loop-place.view c.change_pair.new.view c.args.indexes.now c.loop-place.place c.index-indexes-place.result (row_before c.args.change) (row_behind c.args.change) c.args.at
      (search rules) (search rules) c.loop-place.invariant.some c.in_default.ensures.changes;
  wrote = one_keeps c.args.view.now c.loop-place.view c.change_pair.new.view c.args.indexes.now c.loop-place.place c.index-indexes-place.result (row_before c.args.change) (row_behind c.args.change) c.args.at
      (search rules) (search rules) c.loop-place.invariant.some (slice_get-get_or c.args.indexes.now c.loop-place.place c.index-indexes-place.result (search rules) ∙ ap Some (sym c.index-indexes-place.is)) c.loop-place.invariant.wrote c.in_default.ensures.nodes;
  base = search rules;
}

pub returns-clause-changes : goal.returns-clause-changes
returns-clause-changes c = all_changed c.args.view.now c.loop-place.view c.args.indexes.now c.loop-place.place (row_before c.args.change) (row_behind c.args.change) c.args.at (search rules) c.loop-place.invariant.some

pub returns-in-Err-clause-nodes : goal.returns-in-Err-clause-nodes
returns-in-Err-clause-nodes c =
    subst (λ s. PairsKeep c.args.view.now c.change_pair.new.view c.args.indexes.now (row_before c.args.change) (row_behind c.args.change) c.args.at (Err s)) (sym c.row_stop.ensures)
    (one_stops_at c.args.view.now c.loop-place.view c.change_pair.new.view c.args.indexes.now c.loop-place.place c.index-indexes-place.result (row_before c.args.change) (row_behind c.args.change) c.args.at
    (search rules) c.index-indexes-place.is c.loop-place.invariant.some (slice_get-get_or c.args.indexes.now c.loop-place.place c.index-indexes-place.result (search rules) ∙ ap Some (sym c.index-indexes-place.is)) c.in-Err.stop c.in-Err.ensures.nodes)

pub returns-clause-nodes : goal.returns-clause-nodes
returns-clause-nodes c = c.loop-place.invariant.wrote
