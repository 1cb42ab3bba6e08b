use Rattle.std.proofs.Common.{ℕ, List, subst}
use Rattle.std.specs.Prelude.{Ok, Err}
use Rattle.std.proofs.lemmas.Result.{err_from_is_err_and}
use Rattle.line_view.specs.declared.writes.Write.{Write}
use Rattle.sorted_index_laws.specs.Changes.{pair_of}
use Rattle.sorted_index_laws.specs.Inner.Growth.{WritesRoot}
use Rattle.sorted_index_laws.proofs.Laid.{laid_known}
use Rattle.sorted_index_laws.proofs.Ordered.{ascend}
use Rattle.sorted_index_laws.proofs.Growing.{HasPut}
use Rattle.sorted_index_laws.proofs.Rooted.{looked_stopped, inserted_missed, inserted_stopped, inserted_unwritten, inserted}
use Rattle.sorted_index.proofs.insertion.insert.Goals as goal

pub returns-in_err-is_taken : goal.returns-in_err-is_taken
returns-in_err-is_taken g c =
    let p = err_from_is_err_and c.from_residual.result c.from_residual.ensures.1 in
    record { answers = rw (p.1, p.2) (looked_stopped (g.V.View.knows c.args.view.now) c.args.root (pair_of c.args.key.now c.args.at) c.args.unique c.in_err-is_taken.field-0.0 c.in_err-is_taken.ensures) }

pub returns-in_err-node : goal.returns-in_err-node
returns-in_err-node g c =
    let p = err_from_is_err_and c.from_residual-in_err-node.result c.from_residual-in_err-node.ensures.1 in
    record { answers = rw (p.1, p.2) (inserted_missed (g.V.View.knows c.args.view.now) c.args.root (pair_of c.args.key.now c.args.at) c.args.unique c.in_ok-is_taken.field-0 c.in_err-node.field-0.0 c.in_ok-is_taken.ensures c.in_err-node.ensures) }

pub put_below-requires-clause-laid : goal.put_below-requires-clause-laid
put_below-requires-clause-laid g c = laid_known ((g.V.View.knows c.args.view.now).line c.args.root) c.in_ok-node.node c.in_ok-node.ensures.0

pub returns-in_err-grown : goal.returns-in_err-grown
returns-in_err-grown g c =
    let p = err_from_is_err_and c.from_residual-in_err-grown.result c.from_residual-in_err-grown.ensures.1 in
    let known = g.V.View.knows c.args.view.now in
    let pair = pair_of c.args.key.now c.args.at in
    record {
      answers = rw (p.1, p.2) (inserted_stopped known c.args.root pair c.args.unique c.in_ok-is_taken.field-0 c.in_ok-node.node c.put_below.new.work.rooms c.put_below.new.work.writes c.in_err-grown.field-0.0 c.in_ok-is_taken.ensures c.if-branch.false c.in_ok-node.ensures.0
          (subst (λ (z : List Write). HasPut known c.args.root.area pair c.in_ok-node.node 0 c.put_below.new.work.rooms z c.put_below.new.work.writes (Err c.in_err-grown.field-0.0)) c.new.ensures c.in_err-grown.ensures.puts));
    }

pub returns-in_err-write_root : goal.returns-in_err-write_root
returns-in_err-write_root g c =
    let p = err_from_is_err_and c.from_residual-in_err-write_root.result c.from_residual-in_err-write_root.ensures.1 in
    let known = g.V.View.knows c.args.view.now in
    let pair = pair_of c.args.key.now c.args.at in
    record {
      answers = rw (p.1, p.2) (inserted_unwritten known c.args.root pair c.args.unique c.in_ok-is_taken.field-0 c.in_ok-node.node c.in_ok-grown.grown c.put_below.new.work.rooms c.put_below.new.work.writes c.write_root.new.work.writes c.in_err-write_root.field-0.0 c.in_ok-is_taken.ensures c.if-branch.false c.in_ok-node.ensures.0
          (subst (λ (z : List Write). HasPut known c.args.root.area pair c.in_ok-node.node 0 c.put_below.new.work.rooms z c.put_below.new.work.writes (Ok c.in_ok-grown.grown)) c.new.ensures c.in_ok-grown.ensures.puts)
          (subst (λ (a : ℕ). WritesRoot known a c.args.root c.in_ok-grown.grown c.put_below.new.work.rooms c.put_below.new.work.writes c.write_root.new.work.writes (Err c.in_err-write_root.field-0.0)) c.in_ok-grown.ensures.area c.in_err-write_root.ensures));
    }

pub returns : goal.returns
returns g c =
    let known = g.V.View.knows c.args.view.now in
    let pair = pair_of c.args.key.now c.args.at in
    record {
      answers = inserted known c.args.root pair c.args.unique c.in_ok-is_taken.field-0 c.in_ok-node.node c.in_ok-grown.grown c.put_below.new.work.rooms c.put_below.new.work.writes c.write_root.new.work.writes c.in_ok-write_root.field-0 c.in_ok-is_taken.ensures c.if-branch.false c.in_ok-node.ensures.0 (ascend c.in_ok-grown.grown.entries c.in_ok-grown.ensures.grown.0.ascending)
          (subst (λ (z : List Write). HasPut known c.args.root.area pair c.in_ok-node.node 0 c.put_below.new.work.rooms z c.put_below.new.work.writes (Ok c.in_ok-grown.grown)) c.new.ensures c.in_ok-grown.ensures.puts)
          (subst (λ (a : ℕ). WritesRoot known a c.args.root c.in_ok-grown.grown c.put_below.new.work.rooms c.put_below.new.work.writes c.write_root.new.work.writes (Ok c.in_ok-write_root.field-0)) c.in_ok-grown.ensures.area c.in_ok-write_root.ensures);
    }
