use Rattle.std.proofs.Common.{◌≡◌, drop}
use Rattle.rdb_meaning.specs.Contents.{place_from, place_of}
use Rattle.rdb_meaning.proofs.tables.field_of.Given as goal

abbrev pub invariant-loop-place : goal.invariant-loop-place
invariant-loop-place l = place_from l.place l.name (drop l.place l.fields) ≡ place_of l.name l.fields
