use Rattle.stable_lines.specs.Slots.{area_file}
use Rattle.guarded_lines.specs.Laying.{IsArea}
use Rattle.rmu_restore.proofs.Blanked.{Blanks}
use Rattle.rmu_restore.proofs.blanking.blank_areas.Given as goal

abbrev pub invariant-loop-file : goal.invariant-loop-file
invariant-loop-file g l = record {
  blanks : Blanks IsArea area_file l.file (g.D.Disk.view l.fn.disk) (g.D.Disk.view l.disk);
}
