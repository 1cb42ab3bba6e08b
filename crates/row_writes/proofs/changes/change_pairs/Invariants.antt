use Rattle.std.proofs.Common.{◌≡◌}
use Rattle.row_writes.specs.Changes.{row_before, row_behind}
use Rattle.row_writes.proofs.InTurn.{ChangesSome}
use Rattle.row_writes.proofs.RowKept.{WritesSome}
use Rattle.row_writes.proofs.changes.change_pairs.Given as goal

abbrev pub invariant-loop-place : goal.invariant-loop-place
invariant-loop-place l = record {
  some : ChangesSome l.fn.view l.view l.indexes l.place (row_before l.change) (row_behind l.change) l.at;
  wrote : WritesSome l.fn.view l.view l.indexes (row_before l.change) (row_behind l.change) l.at;
  base : l.view.base ≡ l.fn.view.base;
}
