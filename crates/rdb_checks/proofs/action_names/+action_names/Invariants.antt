use Rattle.std.proofs.Common.{◌≡◌, map, drop}
use Rattle.rdo_ast.specs.Views.{act_of, acts_of}
use Rattle.rdb_meaning.specs.Checks.{acts_names}
use Rattle.rdb_checks.proofs.action_names.+action_names.Given as goal

abbrev pub invariant-check_body_names-loop-action : goal.invariant-check_body_names-loop-action
invariant-check_body_names-loop-action l =
    acts_names (acts_of (map act_of l.body)) l.tables l.scope
    ≡ acts_names (acts_of (map act_of (drop l.action-index l.body))) l.tables l.scope
