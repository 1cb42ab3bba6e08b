use Rattle.std.proofs.Common.{◌+◌, ◌*◌, List, length, map}
use Rattle.rdo_ast.specs.declared.syntax.Range.{Range}
use Rattle.rdb_meaning.specs.declared.tables.Tables.{Tables}
use Rattle.line_view.specs.Held.{knows}
use Rattle.rdo_values.specs.Places.{AreRanges}
use Rattle.rdo_values.specs.Views.{testing_of, conjunction_with}
use Rattle.rdo_select.specs.Sources.{IsShown}
use Rattle.served_selections.specs.Ranges.{chosen_from}
use Rattle.index_ahead.specs.Added.{AddsOnly}
use Rattle.rdo_acts.specs.Looking.{IsReadBy, StandBehind}
use Rattle.rdo_acts.proofs.looking.+looking.Given as goal

abbrev pub decreases-look_over : goal.decreases-look_over
decreases-look_over l = 2 * length l.ranges.now

abbrev pub decreases-look_behind : goal.decreases-look_behind
decreases-look_behind l = 2 * length l.ranges.now + 1

abbrev pub invariant-look_behind-loop-row : goal.invariant-look_behind-loop-row
invariant-look_behind-loop-row l = (t : Tables) (vs : List Range) → IsShown (knows l.sight.known.now) l.sight.sources.now.entries t → AreRanges l.ranges t → StandBehind t vs l.before l.rows
    → AddsOnly (IsReadBy t l.sight.sources.now.entries (chosen_from l.ranges vs (conjunction_with (map testing_of l.tests)))) l.fn.keys.keys l.keys.keys
