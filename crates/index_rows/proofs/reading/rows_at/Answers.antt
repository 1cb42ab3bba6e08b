use Rattle.std.proofs.Common.{rules, sym, subst}
use Rattle.std.proofs.lemmas.Grind.{common_steps}
use Rattle.std.proofs.Common.{arith}
use Rattle.std.specs.Prelude.{IfSome}
use Rattle.relation_rows.specs.Stored.{IsRowAt}
use Rattle.index_rows.proofs.InTurn.{AreRead, row_read, stop_read}
use Rattle.index_rows.proofs.reading.rows_at.Goals as goal

pub returns-in_err-row : goal.returns-in_err-row
returns-in_err-row g c =
    let known = g.V.View.knows c.args.view.now in
    let read = subst (λ l. AreRead known c.args.relation.now c.into_iter-key-iterator.result l c.loop-key.rows) c.in-Some.ensures.steps c.loop-key.invariant in
    let why = stop_read known c.args.relation.now c.into_iter-key-iterator.result c.next.new.self c.in-Some.key.now c.loop-key.rows c.in_err-row.field-0.0 read c.in_err-row.ensures.missing c.in_err-row.ensures.bad in
    first_of (search (rules, why), grind (arith, common_steps, why))

pub loop-key-preserved : goal.loop-key-preserved
loop-key-preserved g c =
    let known = g.V.View.knows c.args.view.now in
    let read = subst (λ l. AreRead known c.args.relation.now c.into_iter-key-iterator.result l c.loop-key.rows) c.in-Some.ensures.steps c.loop-key.invariant in
    let found = subst (λ o. IfSome o (IsRowAt known c.args.relation.now c.in-Some.key.now)) c.in-Some-2.is c.in_ok-row.ensures.found in
    subst (λ rows. AreRead known c.args.relation.now c.into_iter-key-iterator.result c.next.new.self rows) (sym c.in_ok-push-in-Some-2.ensures.ok)
    (row_read known c.args.relation.now _ c.next.new.self c.in-Some.key.now c.loop-key.rows c.in-Some-2.row read found)
