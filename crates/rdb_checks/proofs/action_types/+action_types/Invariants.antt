use Rattle.std.proofs.Common.{◌≡◌, map, drop}
use Rattle.rdo_ast.specs.Views.{act_of, acts_of}
use Rattle.rdb_meaning.specs.Checks.{acts_clash}
use Rattle.rdb_checks.proofs.action_types.+action_types.Given as goal

abbrev pub invariant-body_clashes-loop-action : goal.invariant-body_clashes-loop-action
invariant-body_clashes-loop-action l =
    acts_clash (acts_of (map act_of l.body)) l.tables l.scope
    ≡ acts_clash (acts_of (map act_of (drop l.action-index l.body))) l.tables l.scope
