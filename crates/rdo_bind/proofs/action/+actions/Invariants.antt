use Rattle.std.proofs.Common.{◌≡◌, map, take, drop}
use Rattle.rdo_ast.specs.Views.{act_of, acts_of}
use Rattle.rdb_meaning.specs.Checks.{acts_names}
use Rattle.rdo_values.specs.Rows.{variables_of}
use Rattle.rdo_bind.specs.Acting.{act_of as bound_act_of, acts_of as bound_acts_of, written_act, AreBoundActs}
use Rattle.rdo_bind.proofs.action.+actions.Given as goal

abbrev pub invariant-bind_body-loop-action : goal.invariant-bind_body-loop-action
invariant-bind_body-loop-action l = record {
  names : acts_names (acts_of (map act_of l.actions)) l.tables l.scope
      ≡ acts_names (acts_of (map act_of (drop l.action-index l.actions))) l.tables l.scope;
  written : map written_act l.bound ≡ map act_of (take l.action-index l.actions);
  bound : AreBoundActs (bound_acts_of (map bound_act_of l.bound)) l.tables (variables_of l.scope);
}
