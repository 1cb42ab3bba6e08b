use Rattle.std.proofs.Common.{Some, None, sym, subst}
use Rattle.row_writes.specs.declared.target.RowChange.{RowChange}
use Rattle.row_writes.specs.Changes.{row_before, row_behind, ChangesPair}
use Rattle.row_writes.proofs.Steps.{stored, erased}
use Rattle.row_writes.specs.Areas.{PairKeeps}
use Rattle.row_writes.proofs.RowKept.{pair_keeps, stored_keeps}
use Rattle.row_writes.proofs.changes.change_pair.Goals as goal

pub returns-in-Stored-clause-changes : goal.returns-in-Stored-clause-changes
returns-in-Stored-clause-changes c =
    subst (λ (change : RowChange). ChangesPair c.args.view.now c.add_pair.new.view c.args.index.now (row_before change) (row_behind change) c.args.at c.add_pair.result) (sym c.in-Stored.is)
    (stored c.args.view.now c.add_pair.new.view c.args.index.now c.in-Stored.row.now c.args.at c.add_pair.result c.add_pair.ensures.adds)

pub returns-in-Erased-clause-changes : goal.returns-in-Erased-clause-changes
returns-in-Erased-clause-changes c =
    subst (λ (change : RowChange). ChangesPair c.args.view.now c.take_pair.new.view c.args.index.now (row_before change) (row_behind change) c.args.at c.take_pair.result) (sym c.in-Erased.is)
    (erased c.args.view.now c.take_pair.new.view c.args.index.now c.in-Erased.was.now c.args.at c.take_pair.result c.take_pair.ensures.takes)

pub returns-in-Stored-clause-nodes : goal.returns-in-Stored-clause-nodes
returns-in-Stored-clause-nodes c =
    subst (λ (change : RowChange). PairKeeps c.args.view.now c.add_pair.new.view c.args.index.now (row_before change) (row_behind change) c.args.at c.add_pair.result) (sym c.in-Stored.is)
    (stored_keeps c.args.view.now c.add_pair.new.view c.args.index.now c.in-Stored.row.now c.args.at c.add_pair.result c.add_pair.ensures.nodes)

pub returns-in-Erased-clause-nodes : goal.returns-in-Erased-clause-nodes
returns-in-Erased-clause-nodes c =
    subst (λ (change : RowChange). PairKeeps c.args.view.now c.take_pair.new.view c.args.index.now (row_before change) (row_behind change) c.args.at c.take_pair.result) (sym c.in-Erased.is)
    (pair_keeps c.args.view.now c.take_pair.new.view c.args.index.now (Some c.in-Erased.was.now) None c.args.at c.take_pair.result c.take_pair.ensures.nodes)
