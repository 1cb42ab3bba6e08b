use Rattle.stable_lines.specs.Slots.{ruj_file}
use Rattle.rmu_restore.specs.Laying.{IsJournal}
use Rattle.rmu_restore.proofs.Blanked.{Blanks}
use Rattle.rmu_restore.proofs.blanking.blank_journals.Given as goal

abbrev pub invariant-loop-member : goal.invariant-loop-member
invariant-loop-member g l = record {
  blanks : Blanks IsJournal ruj_file l.member (g.D.Disk.view l.fn.disk) (g.D.Disk.view l.disk);
}
