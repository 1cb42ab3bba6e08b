use Rattle.std.proofs.Common.{◌≡◌, map, drop}
use Rattle.rdo_ast.specs.Views.{shown_of}
use Rattle.rdb_checks.specs.Unreserved.{shown_unreserved}
use Rattle.rdb_checks.proofs.action_uses.check_items_uses.Given as goal

abbrev pub invariant-loop-item : goal.invariant-loop-item
invariant-loop-item l =
    shown_unreserved l.reservations (map shown_of l.items)
    ≡ shown_unreserved l.reservations (map shown_of (drop l.item-index l.items))
