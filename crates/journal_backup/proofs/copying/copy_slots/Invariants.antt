use Rattle.std.proofs.Common.{◌≡◌, ◌≤◌, IsTrue}
use Rattle.journal_backup.proofs.Calls.{KeepsAll, Stands, AreCopied}
use Rattle.journal_backup.proofs.copying.copy_slots.Given as goal

abbrev pub invariant-loop-slot : goal.invariant-loop-slot
invariant-loop-slot g l =
    let before = g.D.Disk.view l.fn.disk in let here = g.D.Disk.view l.disk in
    record {
      told : here.tells ≡ before.tells;
      no_fewer : before.faults ≤ here.faults;
      copied : IsTrue before.tells → AreCopied l.number 1 l.slot before.content here.content;
      keeps : IsTrue before.tells → KeepsAll l.number before here;
      stands : IsTrue before.tells → Stands before here;
    }
