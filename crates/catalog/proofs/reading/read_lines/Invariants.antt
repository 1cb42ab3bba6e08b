use Rattle.std.proofs.Common.{◌≡◌, ◌++◌, Some}
use Rattle.catalog.specs.Reading.{catalog_area, line_keys, AreKnown}
use Rattle.catalog.proofs.reading.read_lines.Given as goal

abbrev pub invariant-loop-key : goal.invariant-loop-key
invariant-loop-key g l =
    (goal.iterator-loop-key g).can_next l.key-iterator ×
    (goal.iterator-loop-key g).is_finite l.key-iterator ×
    ((g.V.View.knows l.view).area catalog_area ≡ Some (line_keys l.lines ++ l.key-iterator)) ×
    AreKnown (g.V.View.knows l.view) l.lines
