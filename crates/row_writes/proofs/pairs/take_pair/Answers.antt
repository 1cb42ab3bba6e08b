use Rattle.std.proofs.Common.{rules}
use Rattle.row_writes.proofs.Trees.{pair_taken, taking_stops}
use Rattle.row_writes.proofs.IndexKept.{taken_keeps, taking_keeps}
use Rattle.row_writes.proofs.pairs.take_pair.Goals as goal

pub returns-in-Err-clause-takes : goal.returns-in-Err-clause-takes
returns-in-Err-clause-takes c =
    taking_stops c.args.view.now c.args.view.now c.args.index.now c.args.row.now c.args.at c.as_slice-2.result.now c.in-Err.stop c.known_stop.result c.in-Err.ensures.answers c.known_stop.ensures

pub returns-clause-takes : goal.returns-clause-takes
returns-clause-takes c =
    pair_taken c.args.view.now c.put_all.new.view c.args.index.now c.args.row.now c.args.at c.as_slice-2.result.now c.in-Ok.writes c.as_slice-3.result.now (search rules) (search rules) c.in-Ok.ensures.answers
    c.in_ok-put_all.ensures.stands c.in_ok-put_all.ensures.laid

pub returns-in-Err-clause-nodes : goal.returns-in-Err-clause-nodes
returns-in-Err-clause-nodes c = taking_keeps c.args.view.now c.args.view.now c.args.index.now c.args.at c.as_slice-2.result.now c.in-Err.stop c.known_stop.result c.in-Err.ensures.answers c.known_stop.ensures

pub returns-clause-nodes : goal.returns-clause-nodes
returns-clause-nodes c =
    taken_keeps c.args.view.now c.put_all.new.view c.args.index.now c.args.at c.as_slice-2.result.now c.in-Ok.writes c.as_slice-3.result.now (search rules) c.in-Ok.ensures.answers c.in_ok-put_all.ensures.areas
