use Rattle.std.proofs.Common.{◌≡◌, drop}
use Rattle.std.specs.Ordering.{is_eq}
use Rattle.rdb_types.specs.Order.{row_order}
use Rattle.rdb_meaning.specs.Contents.{key_of}
use Rattle.rdb_tables.proofs.unique.same_key.Given as goal

abbrev pub invariant-loop-place : goal.invariant-loop-place
invariant-loop-place l =
    is_eq (row_order (key_of l.places l.row) (key_of l.places l.other))
    ≡ is_eq (row_order (key_of (drop l.place-index l.places) l.row) (key_of (drop l.place-index l.places) l.other))
