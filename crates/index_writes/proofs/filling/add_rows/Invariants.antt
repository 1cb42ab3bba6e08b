use Rattle.std.proofs.Common.{◌≡◌, drop}
use Rattle.index_writes.proofs.Filled.{AreUnderway}
use Rattle.index_writes.proofs.Kept.{WritesNodes}
use Rattle.index_writes.proofs.filling.add_rows.Given as goal

abbrev pub invariant-loop-row : goal.invariant-loop-row
invariant-loop-row l = record {
  some : AreUnderway l.fn.view l.view l.index l.rows (drop l.row-index l.rows);
  wrote : WritesNodes l.fn.view l.view l.index l.rows;
  base : l.view.base ≡ l.fn.view.base;
}
