use Rattle.std.proofs.Common.{◌≡◌, take}
use Rattle.rdb_meaning.specs.Contents.{with_rows}
use Rattle.rdb_tables.specs.Undoing.{undone}
use Rattle.rdb_tables.proofs.undo.first_version.Given as goal

abbrev pub invariant-loop-place : goal.invariant-loop-place
invariant-loop-place l =
    with_rows (undone l.name (take l.place l.changes) l.before.rows) l.before ≡ with_rows (undone l.name l.changes l.relation.rows) l.relation
