use Rattle.guarded_root.specs.Guarded.{RunsBehind}
use Rattle.rmu_restore.specs.Laying.{IsSnapshot}
use Rattle.rmu_restore.proofs.blanking.blank_snapshots.Given as goal

abbrev pub invariant-loop-file : goal.invariant-loop-file
invariant-loop-file g l = record { runs : RunsBehind IsSnapshot (g.D.Disk.view l.fn.disk) (g.D.Disk.view l.disk) }
