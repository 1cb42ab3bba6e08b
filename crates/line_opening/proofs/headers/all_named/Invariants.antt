use Rattle.std.proofs.Common.{◌≡◌, ◌+◌, ◌<◌, ℕ, IsTrue, get_or, length}
use Rattle.rdb_outside.specs.Disk.{OnlyReads}
use Rattle.line_moves.specs.stable_lines.Slots.{ruj_file, named}
use Rattle.line_opening.proofs.headers.all_named.Given as goal

abbrev pub invariant-loop-place : goal.invariant-loop-place
invariant-loop-place g l =
    let before = g.D.Disk.view l.fn.disk in
    record {
      reads : OnlyReads before (g.D.Disk.view l.disk);
      long : length l.numbers ≡ 16;
      names : IsTrue before.tells → (k : ℕ) → k < l.place → get_or l.numbers k 0 ≡ named (before.content (ruj_file (k + 1)) 0);
    }
