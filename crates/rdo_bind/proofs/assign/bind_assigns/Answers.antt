use Rattle.std.proofs.Common.{◌∙◌, sym, ap, subst, map, refl}
use Rattle.std.specs.List.{All}
use Rattle.rdo_ast.specs.Views.{assignment_of}
use Rattle.rdb_meaning.specs.Checks.{first_refusal, assignment_names}
use Rattle.rdo_values.specs.Rows.{variables_of}
use Rattle.rdo_bind.specs.Assigning.{written_assign, IsBoundAssign}
use Rattle.rdo_bind.proofs.Lists.{names_more, written_more, all_more}
use Rattle.rdo_bind.proofs.assign.bind_assigns.Goals as goal

pub loop-assign-preserved : goal.loop-assign-preserved
loop-assign-preserved c =
    let inv = c.loop-assign.invariant in
    let i = c.loop-assign.assign-index in
    let y = c.assign-item.result in
    let ys = c.args.assigns.now in
    let tables = c.args.tables.now in
    let scope = c.args.scope.now in
    let pushed = c.in_ok-push.ensures.ok in
    record {
      names = names_more (λ ys. first_refusal (assignment_names c.args.variable.now tables scope) (map assignment_of ys)) ys i y _ _ c.loop-assign-test.true c.assign-item.is inv.names refl c.in_ok-bind_assign.ensures.names;
      written = ap (map written_assign) pushed ∙ written_more written_assign assignment_of _ _ ys i y inv.written c.loop-assign-test.true c.assign-item.is c.in_ok-bind_assign.ensures.written;
      bound = subst (All (IsBoundAssign tables (variables_of scope))) (sym pushed) (all_more (IsBoundAssign tables (variables_of scope)) _ _ inv.bound c.in_ok-bind_assign.ensures.bound);
    }
