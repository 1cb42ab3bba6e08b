use Rattle.std.proofs.Common.{◌≡◌, map, drop}
use Rattle.std.specs.List.{list_any}
use Rattle.rdo_ast.specs.Views.{shown_of}
use Rattle.rdb_meaning.specs.Checks.{shown_clashes}
use Rattle.rdb_checks.proofs.action_types.items_clash.Given as goal

abbrev pub invariant-loop-item : goal.invariant-loop-item
invariant-loop-item l =
    list_any (shown_clashes l.tables l.scope) (map shown_of l.items)
    ≡ list_any (shown_clashes l.tables l.scope) (map shown_of (drop l.item-index l.items))
