use Rattle.std.proofs.Common.{List}
use Rattle.std.specs.List.{All}
use Rattle.rdo_ast.specs.declared.syntax.Range.{Range}
use Rattle.rdb_meaning.specs.declared.tables.Tables.{Tables}
use Rattle.line_view.specs.Held.{knows}
use Rattle.rdo_bind.specs.Acting.{IsBoundItem}
use Rattle.rdo_select.specs.Sources.{IsShown}
use Rattle.index_ahead.specs.Added.{AddsOnly}
use Rattle.rdo_acts.specs.Looking.{IsReadBy, AreValuesOf}
use Rattle.rdo_acts.specs.Selections.{chosen_in_items}
use Rattle.rdo_acts.proofs.looking.look_at_items.Given as goal

abbrev pub invariant-loop-item : goal.invariant-loop-item
invariant-loop-item l = (t : Tables) (vs : List Range) → IsShown (knows l.sight.known.now) l.sight.sources.now.entries t → All (IsBoundItem t vs) l.items → AreValuesOf t vs l.before
    → AddsOnly (IsReadBy t l.sight.sources.now.entries (chosen_in_items l.items vs)) l.fn.keys.keys l.keys.keys
