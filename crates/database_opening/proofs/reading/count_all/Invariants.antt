use Rattle.std.proofs.Common.{◌≡◌, ◌<◌, ℕ, IsTrue, get_or, length}
use Rattle.rdb_outside.specs.Disk.{OnlyReads}
use Rattle.database_opening.proofs.Counts.{CountedAt}
use Rattle.database_opening.proofs.reading.count_all.Given as goal

abbrev pub invariant-loop-place : goal.invariant-loop-place
invariant-loop-place g l =
    let before = g.D.Disk.view l.fn.disk in
    record {
      reads : OnlyReads before (g.D.Disk.view l.disk);
      long : length l.counts ≡ 16;
      counted : IsTrue before.tells → (k : ℕ) → k < l.place → CountedAt before.content l.numbers k (get_or l.counts k 0);
    }
