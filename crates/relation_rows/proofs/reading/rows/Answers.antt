use Rattle.std.proofs.Common.{rules, arith, ◌≡◌, Some, None, sym, subst}
use Rattle.std.proofs.lemmas.Grind.{common_steps}
use Rattle.std.specs.Prelude.{IfSome, IfNone}
use Rattle.rdb_types.specs.declared.keys.Dbkey.{Dbkey}
use Rattle.relation_rows.specs.Stored.{IsRowAt, IsBadAt, IsBadIn}
use Rattle.relation_rows.proofs.Progress.{AreRead, row_read, absent_read, bad_line}
use Rattle.relation_rows.proofs.reading.rows.Goals as goal

pub returns-in_err-row-clause-bad : goal.returns-in_err-row-clause-bad
returns-in_err-row-clause-bad g c = λ at stops all agrees.
    let known = g.V.View.knows c.args.view.now in
    let relation = c.args.relation.now in
    let read = subst (λ l. AreRead known relation c.into_iter-key-iterator.result l c.loop-key.rows) c.in-Some-key.ensures.steps c.loop-key.invariant in
    let key = c.in-Some-key.key.now in
    let bad : (at ≡ key) × IsBadAt known relation key = first_of (search rules, grind (arith, common_steps)) in
    subst (λ (key : Dbkey). (key.area ≡ relation.area) × IsBadIn relation key all) (sym bad.0)
    (bad_line known relation c.into_iter-key-iterator.result c.next.new.self key c.loop-key.rows read (first_of (search rules, cc)) bad.1 all agrees)

pub loop-key-preserved-in-Continue-branch-3 : goal.loop-key-preserved-in-Continue-branch-3
loop-key-preserved-in-Continue-branch-3 g c =
    let known = g.V.View.knows c.args.view.now in
    let read = subst (λ l. AreRead known c.args.relation.now c.into_iter-key-iterator.result l c.loop-key.rows) c.in-Some-key.ensures.steps c.loop-key.invariant in
    let found = subst (λ o. IfSome o (IsRowAt known c.args.relation.now c.in-Some-key.key.now)) c.in-Some-2.is c.in_ok-row.ensures.found in
    subst (λ rows. AreRead known c.args.relation.now c.into_iter-key-iterator.result c.next.new.self rows) (sym c.in_ok-push.ensures.ok)
    (row_read known c.args.relation.now _ c.next.new.self c.in-Some-key.key.now c.loop-key.rows c.in-Some-2.row found.0 read found.1 found.2)

pub loop-key-preserved : goal.loop-key-preserved
loop-key-preserved g c =
    let known = g.V.View.knows c.args.view.now in
    let read = subst (λ l. AreRead known c.args.relation.now c.into_iter-key-iterator.result l c.loop-key.rows) c.in-Some-key.ensures.steps c.loop-key.invariant in
    absent_read known c.args.relation.now _ c.next.new.self c.in-Some-key.key.now c.loop-key.rows read
    (subst (λ o. IfNone o (known.line c.in-Some-key.key.now ≡ Some None)) c.in_default-2.is c.in_ok-row.ensures.absent)
