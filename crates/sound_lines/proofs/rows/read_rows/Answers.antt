use Rattle.std.proofs.Common.{rules, ◌≡◌, Some, None, sym, subst}
use Rattle.std.specs.Prelude.{IfSome, IfNone}
use Rattle.relation_rows.specs.Stored.{IsRowAt}
use Rattle.sound_lines.proofs.RowsRead.{Reads, no_row, one_row_more, no_row_more, rows_are}
use Rattle.sound_lines.proofs.rows.read_rows.Goals as goal

pub loop-key-preserved-in-Continue-branch-3 : goal.loop-key-preserved-in-Continue-branch-3
loop-key-preserved-in-Continue-branch-3 g c =
    let known = g.V.View.knows c.args.view.now in
    let reads = subst (λ l. Reads known c.args.relation.now c.into_iter-key-iterator.result l c.loop-key.rows) c.in-Some-key.ensures.steps c.loop-key.invariant in
    let found = subst (λ o. IfSome o (IsRowAt known c.args.relation.now c.in-Some-key.key.now)) c.in-Some-2.is c.in_ok-row.ensures.found in
    one_row_more known c.args.relation.now c.into_iter-key-iterator.result c.next.new.self c.in-Some-key.key.now c.loop-key.rows c.put.new.self c.in-Some-2.row reads found c.in_ok-put.ensures.ok

pub loop-key-preserved : goal.loop-key-preserved
loop-key-preserved g c =
    let known = g.V.View.knows c.args.view.now in
    let reads = subst (λ l. Reads known c.args.relation.now c.into_iter-key-iterator.result l c.loop-key.rows) c.in-Some-key.ensures.steps c.loop-key.invariant in
    no_row_more known c.args.relation.now c.into_iter-key-iterator.result c.next.new.self c.in-Some-key.key.now c.loop-key.rows reads
    (subst (λ o. IfNone o (known.line c.in-Some-key.key.now ≡ Some None)) c.in_default-2.is c.in_ok-row.ensures.absent)

pub loop-key-init : goal.loop-key-init
loop-key-init g c =
    let known = g.V.View.knows c.args.view.now in
    let keys = c.into_iter-key-iterator.result in
    let told : known.area c.args.relation.now.area ≡ Some keys = search rules in
    subst (Reads known c.args.relation.now keys keys) (sym c.new-rows.ensures) (no_row known c.args.relation.now keys told)

pub returns-clause-rows : goal.returns-clause-rows
returns-clause-rows g c = λ all sorted agrees.
    let known = g.V.View.knows c.args.view.now in
    let keys = c.into_iter-key-iterator.result in
    rows_are known c.args.relation.now keys c.loop-key.rows (subst (λ l. Reads known c.args.relation.now keys l c.loop-key.rows) c.in-None.ensures.steps.0 c.loop-key.invariant) all sorted agrees
