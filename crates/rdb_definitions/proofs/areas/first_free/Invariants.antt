use Rattle.std.proofs.Common.{◌≡◌, length, drop}
use Rattle.rdb_checks.specs.rdb_meaning.Contents.{first_free}
use Rattle.rdb_definitions.proofs.areas.first_free.Given as goal

abbrev pub invariant-loop-other : goal.invariant-loop-other
invariant-loop-other l =
    first_free (length l.used) l.first l.used ≡ first_free (length (drop l._other-index l.used)) l.area l.used
