use Rattle.std.proofs.Common.{subst}
use Rattle.rdo_ast.specs.Views.{act_of}
use Rattle.rdb_meaning.specs.Checks.{act_names}
use Rattle.rdb_checks.specs.Answers.{Finds}
use Rattle.rdo_bind.specs.declared.action.BoundAction.{BoundAction}
use Rattle.rdo_bind.proofs.Checked.{finds_checked}
use Rattle.rdo_bind.proofs.statement.bind_checked.Goals as goal

pub returns-clause-refusal : goal.returns-clause-refusal
returns-clause-refusal c =
    let action = act_of c.args.action.now in
    let tables = c.args.tables.now in
    let named = subst (λ scope. Finds c.bind_action.result (act_names action tables scope)) c.new-scope.ensures c.bind_action.ensures.names in
    finds_checked BoundAction c.bind_action.result action c.args.standing.now tables c.in_ok-check_action.ensures named
