use Rattle.std.proofs.Common.{◌≡◌, map, take, drop}
use Rattle.std.specs.List.{All}
use Rattle.rdo_ast.specs.Views.{shown_of}
use Rattle.rdb_meaning.specs.Checks.{first_refusal, shown_names}
use Rattle.rdo_values.specs.Rows.{variables_of}
use Rattle.rdo_bind.specs.Acting.{written_item, IsBoundItem}
use Rattle.rdo_bind.proofs.action.bind_items.Given as goal

abbrev pub invariant-loop-item : goal.invariant-loop-item
invariant-loop-item l = record {
  names : first_refusal (shown_names l.tables l.scope) (map shown_of l.items)
      ≡ first_refusal (shown_names l.tables l.scope) (map shown_of (drop l.item-index l.items));
  written : map written_item l.bound ≡ map shown_of (take l.item-index l.items);
  bound : All (IsBoundItem l.tables (variables_of l.scope)) l.bound;
}
