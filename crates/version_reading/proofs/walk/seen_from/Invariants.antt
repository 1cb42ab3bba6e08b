use Rattle.std.proofs.Common.{ℕ, List, length, Option, IsTrue}
use Rattle.rdb_outside.specs.Disk.{OnlyReads}
use Rattle.line_versions.specs.Versions.{Followed, Walk}
use Rattle.line_versions.specs.Files.{entries_in}
use Rattle.version_reading.proofs.Ways.{GoesOn}
use Rattle.version_reading.proofs.walk.seen_from.Given as goal

abbrev pub invariant-loop-turn : goal.invariant-loop-turn
invariant-loop-turn g l =
    let before = g.D.Disk.view l.fn.disk in
    record {
      reads : OnlyReads before (g.D.Disk.view l.disk);
      goes : IsTrue before.tells → (followed : Followed) (over : List ℕ) (answer : Option (List ℕ)) → Walk (entries_in before.content) followed l.reader l.key over l.fn.line answer
          → GoesOn (entries_in before.content) followed l.reader l.key l._turn (length over) l.version answer;
    }
