use Rattle.std.proofs.Common.{◌≡◌, length}
use Rattle.line_view.specs.Knowledge.{Lines, IsInOrder, lines_in}
use Rattle.catalog.specs.Reading.{catalog_area}
use Rattle.line_faults.proofs.Taken.{HasTaken}
use Rattle.line_faults.proofs.checked.check_catalog.Given as goal

abbrev pub invariant-loop-keys : goal.invariant-loop-keys
invariant-loop-keys l = (all : Lines) → IsInOrder all → l.fn.lines ≡ lines_in catalog_area all → HasTaken all l.keys l.lines

abbrev pub decreases-loop-keys : goal.decreases-loop-keys
decreases-loop-keys l = length l.lines
