use Rattle.std.proofs.Common.{◌≡◌, map, drop}
use Rattle.rdo_ast.specs.Views.{shown_of}
use Rattle.rdb_meaning.specs.Checks.{shown_uses}
use Rattle.rdo_exec.specs.Ways.{names_any}
use Rattle.rdo_exec.proofs.naming.items_name.Given as goal

abbrev pub invariant-loop-item : goal.invariant-loop-item
invariant-loop-item l = names_any (shown_uses (map shown_of l.items)) ≡ names_any (shown_uses (map shown_of (drop l.item-index l.items)))
