use Rattle.std.proofs.Common.{◌++◌, List, map}
use Rattle.rdo_ast.specs.declared.syntax.Range.{Range}
use Rattle.rdb_meaning.specs.declared.tables.Tables.{Tables}
use Rattle.line_view.specs.Held.{knows}
use Rattle.rdo_bind.specs.Acting.{act_of, acts_of, AreBoundActs}
use Rattle.rdo_values.specs.Views.{ranging_of}
use Rattle.rdo_values.specs.Places.{ranges_in}
use Rattle.rdo_select.specs.Sources.{IsShown}
use Rattle.rdo_values.specs.Selections.{IsBoundSelection}
use Rattle.index_ahead.specs.Added.{AddsOnly}
use Rattle.rdo_acts.specs.Looking.{IsReadBy, AreValuesOf}
use Rattle.rdo_acts.specs.Selections.{chosen_in_acts}
use Rattle.rdo_acts.proofs.looking.+acting.Given as goal

abbrev pub invariant-look_at_body-loop-action : goal.invariant-look_at_body-loop-action
invariant-look_at_body-loop-action l = (t : Tables) (vs : List Range) → IsShown (knows l.sight.known.now) l.sight.sources.now.entries t → AreBoundActs (acts_of (map act_of l.body)) t vs → AreValuesOf t vs l.before
    → AddsOnly (IsReadBy t l.sight.sources.now.entries (chosen_in_acts (acts_of (map act_of l.body)) vs)) l.fn.keys.keys l.keys.keys

abbrev pub invariant-look_within-loop-tuple : goal.invariant-look_within-loop-tuple
invariant-look_within-loop-tuple l = (t : Tables) (vs : List Range) → IsShown (knows l.sight.known.now) l.sight.sources.now.entries t → IsBoundSelection l.selection t vs
    → AreBoundActs (acts_of (map act_of l.body)) t (vs ++ ranges_in (ranging_of l.selection.inner)) → AreValuesOf t vs l.before
    → AddsOnly (IsReadBy t l.sight.sources.now.entries (chosen_in_acts (acts_of (map act_of l.body)) (vs ++ ranges_in (ranging_of l.selection.inner)))) l.fn.keys.keys l.keys.keys
