use Rattle.std.proofs.Common.{rules, subst, Ok, Err}
use Rattle.sorted_index_laws.specs.Insertion.{IsKey}
use Rattle.row_writes.proofs.Trees.{pair_added, adding_stops, long_key}
use Rattle.row_writes.proofs.IndexKept.{HasNot, added_keeps, adding_keeps, index_keeps}
use Rattle.row_writes.proofs.pairs.add_pair.Goals as goal

pub returns-then-not-is_key-clause-adds : goal.returns-then-not-is_key-clause-adds
returns-then-not-is_key-clause-adds c = long_key c.args.view.now c.args.view.now c.args.index.now c.args.row.now c.args.at (λ is. c.is_key.ensures.no (search rules) (subst IsKey (search rules) is))

pub returns-in-Err-clause-adds : goal.returns-in-Err-clause-adds
returns-in-Err-clause-adds c =
    adding_stops c.args.view.now c.args.view.now c.args.index.now c.args.row.now c.args.at c.as_slice-3.result.now c.in-Err.stop c.insertion_stop.result (search rules) c.in-Err.ensures.answers
    c.insertion_stop.ensures.root c.insertion_stop.ensures.others

pub returns-clause-adds : goal.returns-clause-adds
returns-clause-adds c =
    pair_added c.args.view.now c.put_all.new.view c.args.index.now c.args.row.now c.args.at c.as_slice-3.result.now c.in-Ok.writes c.as_slice-4.result.now (search rules) (search rules) c.in-Ok.ensures.answers
    c.in_ok-put_all.ensures.stands c.in_ok-put_all.ensures.laid

pub returns-in-Err-clause-areas : goal.returns-in-Err-clause-areas
returns-in-Err-clause-areas c =
    index_keeps c.args.view.now c.args.view.now c.args.index.now.root (HasNot c.args.index.now c.args.row.now c.args.at) (Err c.insertion_stop.result)
    (adding_keeps c.args.view.now c.args.view.now c.args.index.now c.args.row.now c.args.at c.as_slice-3.result.now c.in-Err.stop c.insertion_stop.result (search rules) c.in-Err.ensures.answers
    c.insertion_stop.ensures.root c.insertion_stop.ensures.others)

pub returns-clause-areas : goal.returns-clause-areas
returns-clause-areas c =
    index_keeps c.args.view.now c.put_all.new.view c.args.index.now.root (HasNot c.args.index.now c.args.row.now c.args.at) (Ok tt)
    (added_keeps c.args.view.now c.put_all.new.view c.args.index.now c.args.row.now c.args.at c.as_slice-3.result.now c.in-Ok.writes c.as_slice-4.result.now (search rules) (search rules) c.in-Ok.ensures.answers c.in_ok-put_all.ensures.areas)

pub returns-in-Err-clause-nodes : goal.returns-in-Err-clause-nodes
returns-in-Err-clause-nodes c =
    adding_keeps c.args.view.now c.args.view.now c.args.index.now c.args.row.now c.args.at c.as_slice-3.result.now c.in-Err.stop c.insertion_stop.result (search rules) c.in-Err.ensures.answers
    c.insertion_stop.ensures.root c.insertion_stop.ensures.others

pub returns-clause-nodes : goal.returns-clause-nodes
returns-clause-nodes c =
    added_keeps c.args.view.now c.put_all.new.view c.args.index.now c.args.row.now c.args.at c.as_slice-3.result.now c.in-Ok.writes c.as_slice-4.result.now (search rules) (search rules) c.in-Ok.ensures.answers c.in_ok-put_all.ensures.areas
