use Rattle.std.proofs.Common.{◌≡◌, ℕ, List, [], IsTrue}
use Rattle.backup_file.specs.declared.header.BackupHead.{BackupHead}
use Rattle.backup_file.specs.declared.line.BackupLine.{BackupLine}
use Rattle.backup_reading.specs.Reading.{IsBackupOf}
use Rattle.guarded_lines.specs.Laying.{IsArea}
use Rattle.guarded_root.specs.Guarded.{RunsBehind}
use Rattle.rmu_restore.specs.Laying.{AreUpTo, HasLaid}
use Rattle.rmu_restore.proofs.Fronts.{LaidTo}
use Rattle.rmu_restore.proofs.laying.lay_all.Given as goal

abbrev pub invariant-loop-index : goal.invariant-loop-index
invariant-loop-index g l =
    let before = g.D.Disk.view l.fn.disk in let now = g.D.Disk.view l.disk in
    record {
      runs : RunsBehind IsArea before now;
      laid : IsTrue before.tells → (greatest : ℕ) (head : BackupHead) (lines : List BackupLine) → IsBackupOf before.content l.number head lines → l.count ≡ head.lines → AreUpTo greatest lines
          → HasLaid head.limits.pages greatest [] before.content → LaidTo head.limits.pages greatest l.index lines now.content;
    }
