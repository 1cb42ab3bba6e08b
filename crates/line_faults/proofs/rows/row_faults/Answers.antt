use Rattle.std.proofs.Common.{subst}
use Rattle.line_faults.proofs.Sifted.{Sifts, bad_sifted, fine_sifted}
use Rattle.line_faults.proofs.rows.row_faults.Goals as goal

pub loop-key-preserved-in-Continue-branch-2 : goal.loop-key-preserved-in-Continue-branch-2
loop-key-preserved-in-Continue-branch-2 g c =
    let known = g.V.View.knows c.args.view.now in
    let sifts = subst (λ l. Sifts known c.args.relation.now c.args.faults.now c.into_iter-key-iterator.result l c.loop-key.faults) c.in-Some-key.ensures.steps c.loop-key.invariant in
    bad_sifted known c.args.relation.now c.args.faults.now c.into_iter-key-iterator.result c.next.new.self c.loop-key.faults c.push.new.self c.in-Some-key.key.now sifts (c.in_ok-is_fault.ensures.yes c.if-branch.true) c.in_ok-push.ensures.ok

pub loop-key-preserved : goal.loop-key-preserved
loop-key-preserved g c =
    let known = g.V.View.knows c.args.view.now in
    let sifts = subst (λ l. Sifts known c.args.relation.now c.args.faults.now c.into_iter-key-iterator.result l c.loop-key.faults) c.in-Some-key.ensures.steps c.loop-key.invariant in
    fine_sifted known c.args.relation.now c.args.faults.now c.into_iter-key-iterator.result c.next.new.self c.loop-key.faults c.in-Some-key.key.now sifts (c.in_ok-is_fault.ensures.no c.if-branch.false)
