use Rattle.std.proofs.Common.{◌≡◌, drop}
use Rattle.std.specs.Ordering.{is_eq}
use Rattle.rdb_types.specs.Order.{row_order}
use Rattle.rdb_checks.specs.rdb_meaning.Contents.{key_of}
use Rattle.rdb_definitions.proofs.keys.is_same_key.Given as goal

abbrev pub invariant-loop-place : goal.invariant-loop-place
invariant-loop-place l =
    is_eq (row_order (key_of l.positions l.left) (key_of l.positions l.right))
    ≡ is_eq (row_order (key_of (drop l.place-index l.positions) l.left) (key_of (drop l.place-index l.positions) l.right))
