use Rattle.std.proofs.Common.{◌≡◌, ◌++◌, length, subst, IfOk}
use Rattle.rdo_ast.specs.declared.syntax.Comparison.{Comparison}
use Rattle.rdo_values.specs.Views.{expression_of}
use Rattle.access_paths.specs.Serving.{asked_by}
use Rattle.access_paths.specs.Limits.{narrowed_from}
use Rattle.access_paths.proofs.Steps.{narrowed_twice_if}
use Rattle.access_paths.proofs.limits.narrowed_by_comparison.Goals as goal

pub returns : goal.returns
returns c =
    let rows = c.args.rows.now in
    let a = expression_of c.args.a.now in
    let b = expression_of c.args.b.now in
    subst (λ (op : Comparison). IfOk c.narrowed_if-2.result (λ limits. limits ≡ narrowed_from rows c.args.limited (asked_by (length rows) c.args.place c.args.op a b ++ asked_by (length rows) c.args.place op b a)))
    c.turned.ensures
    (narrowed_twice_if rows c.args.limited c.in_ok-limited.limited c.narrowed_if-2.result (asked_by (length rows) c.args.place c.args.op a b) (asked_by (length rows) c.args.place c.turned.result b a) c.in_ok-limited.ensures c.narrowed_if-2.ensures)
