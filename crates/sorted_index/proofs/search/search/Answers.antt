use Rattle.std.specs.Prelude.{Ok, Err}
use Rattle.std.proofs.lemmas.Result.{err_from_is_err_and}
use Rattle.node_search.specs.Wanted.{interval_of}
use Rattle.sorted_index.proofs.Gone.{added}
use Rattle.sorted_index_laws.proofs.Whole.{root_misses, root_stopped, root_found, judged_root, judged_below, judged_found}
use Rattle.sorted_index.proofs.search.search.Goals as goal

pub returns-in_err-node-clause-answers : goal.returns-in_err-node-clause-answers
returns-in_err-node-clause-answers g c =
    let p = err_from_is_err_and c.from_residual.result c.from_residual.ensures.1 in
    rw (p.1, p.2) (root_misses (g.V.View.knows c.args.view.now) (interval_of c.args.wanted) c.args.root c.in_err-node.field-0.0 c.in_err-node.ensures)

pub returns-in_err-node-clause-nodes : goal.returns-in_err-node-clause-nodes
returns-in_err-node-clause-nodes g c =
    let p = err_from_is_err_and c.from_residual.result c.from_residual.ensures.1 in
    rw (p.1, p.2) (judged_root (g.V.View.knows c.args.view.now) (interval_of c.args.wanted) c.args.root c.in_err-node.field-0.0 c.in_err-node.ensures)

pub returns-in_err-search_below-clause-answers : goal.returns-in_err-search_below-clause-answers
returns-in_err-search_below-clause-answers g c =
    let known = g.V.View.knows c.args.view.now in
    let s = interval_of c.args.wanted in
    let e = c.in_err-search_below.field-0.0 in
    let node = c.in_ok-node.ensures.0 in
    let p = err_from_is_err_and c.from_residual-in_err-search_below.result c.from_residual-in_err-search_below.ensures.1 in
    rw (p.1, p.2) (root_stopped known s c.args.root node c.new-found.result c.search_below.new.found e c.in_ok-node.ensures.1.1.0 (added known s c.in_ok-node.node node c.new-found.result c.search_below.new.found (Err e) c.in_ok-node.ensures.1.0 c.in_err-search_below.ensures.adds))

pub returns-in_err-search_below-clause-nodes : goal.returns-in_err-search_below-clause-nodes
returns-in_err-search_below-clause-nodes g c =
    let node = c.in_ok-node.ensures.0 in
    let p = err_from_is_err_and c.from_residual-in_err-search_below.result c.from_residual-in_err-search_below.ensures.1 in
    rw (p.1, p.2) (judged_below (g.V.View.knows c.args.view.now) (interval_of c.args.wanted) c.args.root node c.in_err-search_below.field-0.0 c.in_ok-node.ensures.1.1.0 (c.in_err-search_below.ensures.nodes node c.in_ok-node.ensures.1.0))

pub returns-clause-answers : goal.returns-clause-answers
returns-clause-answers g c =
    let known = g.V.View.knows c.args.view.now in
    let s = interval_of c.args.wanted in
    let node = c.in_ok-node.ensures.0 in
    root_found known s c.args.root node c.new-found.result c.search_below.new.found tt c.new-found.ensures c.in_ok-node.ensures.1.1.0 (added known s c.in_ok-node.node node c.new-found.result c.search_below.new.found (Ok tt) c.in_ok-node.ensures.1.0 c.in_ok-search_below.ensures.adds)

pub returns-clause-nodes : goal.returns-clause-nodes
returns-clause-nodes g c =
    let node = c.in_ok-node.ensures.0 in
    judged_found (g.V.View.knows c.args.view.now) (interval_of c.args.wanted) c.args.root node tt c.in_ok-node.ensures.1.1.0 (c.in_ok-search_below.ensures.nodes node c.in_ok-node.ensures.1.0)
