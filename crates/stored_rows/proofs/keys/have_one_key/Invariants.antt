use Rattle.std.proofs.Common.{◌≡◌, drop}
use Rattle.std.specs.Ordering.{is_eq}
use Rattle.rdb_types.specs.Order.{row_order}
use Rattle.rdb_meaning.specs.Contents.{key_of}
use Rattle.stored_rows.proofs.keys.have_one_key.Given as goal

-- the keys are one if those of the positions that are left are
abbrev pub invariant-loop-position : goal.invariant-loop-position
invariant-loop-position l =
    is_eq (row_order (key_of (drop l.position-index l.positions) l.one) (key_of (drop l.position-index l.positions) l.other)) ≡ is_eq (row_order (key_of l.positions l.one) (key_of l.positions l.other))
