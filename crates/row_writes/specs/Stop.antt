-- Why the writing of a row and of its pairs stops.
use Rattle.line_view.specs.declared.stop.Stop.{Stop}
use Rattle.row_writes.specs.declared.stop.PairRefusal.{PairRefusal}
use Rattle.row_writes.specs.declared.stop.RowRefusal.{RowRefusal}

abbrev pub PairStop : Type 0
PairStop = Stop PairRefusal

abbrev pub RowStop : Type 0
RowStop = Stop RowRefusal
