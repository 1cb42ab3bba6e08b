use Rattle.std.proofs.Common.{◌≡◌, take}
use Rattle.rdb_meaning.specs.Contents.{key_of}
use Rattle.stored_rows.proofs.keys.key_of.Given as goal

abbrev pub invariant-loop-position : goal.invariant-loop-position
invariant-loop-position l = l.key ≡ key_of (take l.position-index l.positions) l.row
