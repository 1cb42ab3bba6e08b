use Rattle.std.proofs.Common.{subst}
use Rattle.std.specs.Prelude.{Ok, Err}
use Rattle.rdb_meaning.specs.Contents.{Row, key_of}
use Rattle.row_writes.specs.Pairs.{AddsPair}
use Rattle.index_writes.proofs.Filled.{row_added, row_stops}
use Rattle.sorted_index_laws.specs.Tree.{pairs}
use Rattle.sorted_index_laws.specs.Changes.{pair_of}
use Rattle.sorted_index_laws.specs.Insertion.{IsNew}
use Rattle.row_writes.specs.declared.stop.PairRefusal.{PairRefusal}
use Rattle.row_writes.specs.Areas.{KeepsToIndex}
use Rattle.index_writes.proofs.Kept.{row_kept, row_stops_kept}
use Rattle.index_writes.proofs.filling.add_row.Goals as goal

pub returns-in-Ok-clause-adds : goal.returns-in-Ok-clause-adds
returns-in-Ok-clause-adds c =
    row_added c.args.view.now c.add_pair.new.view c.args.index.now c.args.row.now
    (subst (λ (r : Row). AddsPair c.args.view.now c.add_pair.new.view c.args.index.now r c.args.row.now.key (Ok tt)) c.as_slice.ensures c.in-Ok.ensures.adds)

pub returns-in-Err-clause-adds : goal.returns-in-Err-clause-adds
returns-in-Err-clause-adds c =
    row_stops c.args.view.now c.add_pair.new.view c.args.index.now c.args.row.now c.in-Err.stop c.row_stop.result
    (subst (λ (r : Row). AddsPair c.args.view.now c.add_pair.new.view c.args.index.now r c.args.row.now.key (Err c.in-Err.stop)) c.as_slice.ensures c.in-Err.ensures.adds) c.row_stop.ensures

pub returns-in-Ok-clause-areas : goal.returns-in-Ok-clause-areas
returns-in-Ok-clause-areas c =
    row_kept c.args.view.now c.add_pair.new.view c.args.index.now c.args.row.now
    (subst (λ (r : Row). KeepsToIndex {E = PairRefusal} c.args.view.now c.add_pair.new.view c.args.index.now.root (λ level tree. IsNew (pair_of (key_of c.args.index.now.fields r) c.args.row.now.key) (pairs level tree)) (Ok tt)) c.as_slice.ensures c.in-Ok.ensures.areas)

pub returns-in-Err-clause-areas : goal.returns-in-Err-clause-areas
returns-in-Err-clause-areas c =
    row_stops_kept c.args.view.now c.add_pair.new.view c.args.index.now c.args.row.now c.in-Err.stop c.row_stop.result c.row_stop.ensures
    (subst (λ (r : Row). KeepsToIndex {E = PairRefusal} c.args.view.now c.add_pair.new.view c.args.index.now.root (λ level tree. IsNew (pair_of (key_of c.args.index.now.fields r) c.args.row.now.key) (pairs level tree)) (Err c.in-Err.stop)) c.as_slice.ensures c.in-Err.ensures.areas)
