use Rattle.std.proofs.Common.{◌∙◌, sym, ap, subst, map, refl}
use Rattle.rdo_ast.specs.Views.{act_of, acts_of}
use Rattle.rdb_meaning.specs.Evaluation.{bind_sources}
use Rattle.rdb_meaning.specs.Checks.{acts_names}
use Rattle.rdo_values.specs.Rows.{variables_of}
use Rattle.rdo_bind.specs.Acting.{act_of as bound_act_of, acts_of as bound_acts_of, written_act, AreBoundActs}
use Rattle.rdo_bind.proofs.Lists.{names_more, written_more}
use Rattle.rdo_bind.proofs.Actions.{act_added, acts_alike, for_alike, for_bound}
use Rattle.rdo_bind.proofs.action.+actions.Goals as goal

pub bind_body-loop-action-preserved : goal.bind_body-loop-action-preserved
bind_body-loop-action-preserved t c =
    let inv = c.loop-action.invariant in
    let i = c.loop-action.action-index in
    let y = c.action-item.result in
    let ys = c.args.actions.now in
    let tables = c.args.tables.now in
    let scope = c.args.scope.now in
    let pushed = c.in_ok-push.ensures.ok in
    record {
      names = names_more (λ ys. acts_names (acts_of (map act_of ys)) tables scope) ys i y _ _ c.loop-action-test.true c.action-item.is inv.names refl c.in_ok-bind_action.ensures.names;
      written = ap (map written_act) pushed ∙ written_more written_act act_of _ _ ys i y inv.written c.loop-action-test.true c.action-item.is c.in_ok-bind_action.ensures.written;
      bound = subst (λ bs. AreBoundActs (bound_acts_of (map bound_act_of bs)) tables (variables_of scope)) (sym pushed) (act_added _ _ tables (variables_of scope) inv.bound c.in_ok-bind_action.ensures.bound);
    }

pub bind_action-returns-in_ok-body-in-For-clause-written : goal.bind_action-returns-in_ok-body-in-For-clause-written
bind_action-returns-in_ok-body-in-For-clause-written t c =
    let chosen = c.in_ok-chosen-in-For in
    let body = c.in_ok-body-in-For in
    for_alike chosen.chosen body.body c.args.action.now c.in-For.selection c.in-For.body c.in-For.is chosen.ensures.ranges chosen.ensures.clauses
    (acts_alike _ _ body.ensures.written ∙ ap (λ actions. acts_of (map act_of actions)) c.as_slice-in-For-2.ensures)

pub bind_action-returns-in_ok-body-in-For-clause-bound : goal.bind_action-returns-in_ok-body-in-For-clause-bound
bind_action-returns-in_ok-body-in-For-clause-bound t c =
    let chosen = c.in_ok-chosen-in-For in
    let body = c.in_ok-body-in-For in
    let scope = c.args.scope.now in
    for_bound chosen.chosen body.body c.in-For.selection c.args.tables.now scope c.in_ok-within-in-For.within chosen.ensures.ranges chosen.ensures.bound
    (c.in_ok-within-in-For.ensures ∙ ap (λ ranges. bind_sources ranges scope) c.as_slice-in-For.ensures) body.ensures.bound
