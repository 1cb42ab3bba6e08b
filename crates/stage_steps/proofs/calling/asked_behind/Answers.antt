use Rattle.std.proofs.Common.{◌≤◌, ◌∷◌, [], length, length-append, arith, sym, ap, ◌∙◌}
use Rattle.lock_tree_laws.specs.Forest.{asks_of}
use Rattle.stage_steps.proofs.Asked.{one-more-node, all-nodes}
use Rattle.stage_steps.proofs.calling.asked_behind.Goals as goal

pub loop-at-preserved : goal.loop-at-preserved
loop-at-preserved c =
    let long = ap length c.push.ensures ∙ length-append c.loop-at.nodes (c.in-Some.node ∷ []) in
    record {
      told = one-more-node (asks_of c.args.tree.now.trail c.args.s.number) c.args.before c.loop-at.at c.in-Some.node c.loop-at.nodes c.push.new.self c.loop-at.auto.at c.loop-at.invariant.told (sym c.asked.ensures ∙ c.in-Some.is) c.push.ensures;
      long = omega (arith, long, c.loop-at.invariant.long, c.loop-at.auto.at);
    }

pub returns : goal.returns
returns c =
    let past : length (asks_of c.args.tree.now.trail c.args.s.number) ≤ c.loop-at.at = omega (arith, c.count_asks-at-end.ensures, c.loop-at-test.false) in
    all-nodes (asks_of c.args.tree.now.trail c.args.s.number) c.args.before c.loop-at.at c.loop-at.nodes past c.loop-at.invariant.told
