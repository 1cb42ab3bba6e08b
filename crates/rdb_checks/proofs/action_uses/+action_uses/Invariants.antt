use Rattle.std.proofs.Common.{◌≡◌, map, drop}
use Rattle.rdo_ast.specs.Views.{act_of, acts_of}
use Rattle.rdb_checks.specs.Unreserved.{acts_unreserved}
use Rattle.rdb_checks.proofs.action_uses.+action_uses.Given as goal

abbrev pub invariant-check_body_uses-loop-action : goal.invariant-check_body_uses-loop-action
invariant-check_body_uses-loop-action l =
    acts_unreserved l.reservations (acts_of (map act_of l.body)) l.scope
    ≡ acts_unreserved l.reservations (acts_of (map act_of (drop l.action-index l.body))) l.scope
