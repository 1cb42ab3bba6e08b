use Rattle.std.proofs.Common.{◌+◌, IsTrue}
use Rattle.rdb_outside.specs.Disk.{OnlyReads}
use Rattle.before_images.proofs.Laid.{AreHeld}
use Rattle.before_images.proofs.lines.read_before_images.Given as goal

abbrev pub invariant-loop-place : goal.invariant-loop-place
invariant-loop-place g l =
    let before = g.D.Disk.view l.fn.disk in
    record {
      reads : OnlyReads before (g.D.Disk.view l.disk);
      held : IsTrue before.tells → AreHeld before.content l.numbers (l.place + 1) l.held;
    }
