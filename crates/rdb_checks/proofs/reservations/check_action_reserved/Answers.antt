use Rattle.std.proofs.Common.{◌∙◌, sym, subst}
use Rattle.rdb_meaning.specs.Checks.{Refusal}
use Rattle.rdo_ast.specs.Views.{act_of}
use Rattle.rdb_checks.specs.Answers.{Finds}
use Rattle.rdb_checks.proofs.Unreserved.{act_unreserved-some}
use Rattle.rdb_checks.proofs.reservations.check_action_reserved.Goals as goal

pub returns : goal.returns
returns c =
    subst (λ (x : Refusal). Finds c.check_action_uses.result x)
    (act_unreserved-some c.args.reservations.now (act_of c.args.action.now) c.args.scope.now (sym c.is_empty.ensures ∙ c.if-is_empty.false))
    c.check_action_uses.ensures
