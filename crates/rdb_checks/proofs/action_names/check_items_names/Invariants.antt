use Rattle.std.proofs.Common.{◌≡◌, map, drop}
use Rattle.rdo_ast.specs.Views.{shown_of}
use Rattle.rdb_meaning.specs.Checks.{first_refusal, shown_names}
use Rattle.rdb_checks.proofs.action_names.check_items_names.Given as goal

abbrev pub invariant-loop-item : goal.invariant-loop-item
invariant-loop-item l =
    first_refusal (shown_names l.tables l.scope) (map shown_of l.items)
    ≡ first_refusal (shown_names l.tables l.scope) (map shown_of (drop l.item-index l.items))
