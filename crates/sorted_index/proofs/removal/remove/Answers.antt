use Rattle.std.proofs.lemmas.Result.{err_from_is_err_and}
use Rattle.sorted_index_laws.specs.Changes.{pair_of}
use Rattle.sorted_index_laws.proofs.Laid.{laid_known}
use Rattle.sorted_index_laws.proofs.TakenOut.{root_misses, root_stops, root_changed}
use Rattle.sorted_index.proofs.removal.remove.Goals as goal

pub returns-in_err-node : goal.returns-in_err-node
returns-in_err-node g c =
    let p = err_from_is_err_and c.from_residual.result c.from_residual.ensures.1 in
    record { answers = rw (p.1, p.2) (root_misses (g.V.View.knows c.args.view.now) (pair_of c.args.key.now c.args.at) c.args.root c.in_err-node.field-0.0 c.in_err-node.ensures) }

pub take_out-requires : goal.take_out-requires
take_out-requires g c = laid_known ((g.V.View.knows c.args.view.now).line c.args.root) c.in_ok-node.node c.in_ok-node.ensures.0

pub returns-in_err-left : goal.returns-in_err-left
returns-in_err-left g c =
    let p = err_from_is_err_and c.from_residual-in_err-left.result c.from_residual-in_err-left.ensures.1 in
    record { answers = rw (p.1, p.2) (root_stops (g.V.View.knows c.args.view.now) (pair_of c.args.key.now c.args.at) c.args.root c.in_ok-node.node c.new-writes.result c.take_out.new.writes c.in_err-left.field-0.0 c.in_ok-node.ensures.0 c.in_err-left.ensures.takes) }

pub returns : goal.returns
returns g c = record {
  answers = root_changed (g.V.View.knows c.args.view.now) (pair_of c.args.key.now c.args.at) c.args.root c.in_ok-node.node c.in_ok-left.left c.new-writes.result c.take_out.new.writes c.write_node.new.writes c.in_ok-write_node.ensures.ok.0
      c.new-writes.ensures c.in_ok-node.ensures.0 c.in_ok-left.ensures.takes c.in_ok-write_node.ensures.ok.1.0 c.in_ok-write_node.ensures.ok.1.1;
}
