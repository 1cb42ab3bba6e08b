use Rattle.std.proofs.Common.{◌≡◌, [], length}
use Rattle.rdb_tables.specs.Undoing.{beginning}
use Rattle.rdb_tables.proofs.Undos.{undo_with}
use Rattle.rdb_tables.proofs.undo.roll_back.Given as goal

-- the changes that are left are to be undone
abbrev pub invariant-loop-relation : goal.invariant-loop-relation
invariant-loop-relation l = beginning l.tables (undo_with l.changes l.saved) ≡ beginning l.fn.tables l.fn.undo

abbrev pub decreases-loop-relation : goal.decreases-loop-relation
decreases-loop-relation l = length l.changes

-- the saved relations that are left are to be put back
abbrev pub invariant-loop-relation-2 : goal.invariant-loop-relation-2
invariant-loop-relation-2 l = beginning l.tables (undo_with [] l.saved) ≡ beginning l.fn.tables l.fn.undo

abbrev pub decreases-loop-relation-2 : goal.decreases-loop-relation-2
decreases-loop-relation-2 l = length l.saved
