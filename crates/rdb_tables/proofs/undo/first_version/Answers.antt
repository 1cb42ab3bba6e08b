use Rattle.std.proofs.Common.{◌-◌, ap, ◌∙◌, rules, arith}
use Rattle.rdb_meaning.specs.Contents.{with_rows}
use Rattle.rdb_tables.specs.Undoing.{Rows}
use Rattle.rdb_tables.proofs.Undos.{undone_more, undone_here, undone_elsewhere}
use Rattle.rdb_tables.proofs.undo.first_version.Goals as goal

pub loop-place-preserved-then-same_name : goal.loop-place-preserved-then-same_name
loop-place-preserved-then-same_name c =
    ap (λ (rows : Rows). with_rows rows c.loop-place.before)
    (undone_more c.args.name.now c.args.changes.now (c.loop-place.place - 1) c.loop-place.place c.index-changes-place.result c.loop-place.before.rows c.undo_row.new.rows
    (omega arith) (omega arith) c.index-changes-place.is
    (undone_here c.args.name.now c.index-changes-place.result c.index-changes-place.result.key c.in_ok-row.row c.loop-place.before.rows c.undo_row.new.rows
    (search rules) (search rules) (search rules) (search rules)))
    ∙ c.loop-place.invariant

pub loop-place-preserved : goal.loop-place-preserved
loop-place-preserved c =
    ap (λ (rows : Rows). with_rows rows c.loop-place.before)
    (undone_more c.args.name.now c.args.changes.now (c.loop-place.place - 1) c.loop-place.place c.index-changes-place.result c.loop-place.before.rows c.loop-place.before.rows
    (omega arith) (omega arith) c.index-changes-place.is (undone_elsewhere c.args.name.now c.index-changes-place.result c.loop-place.before.rows (search rules)))
    ∙ c.loop-place.invariant
