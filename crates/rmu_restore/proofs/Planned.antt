-- What a restore goes by.
use Rattle.std.proofs.Common.{◌≡◌, ℕ, ◌≤◌, ◌<◌, List, ap, subst, ◌∙◌, arith}
use Rattle.rdb_outside.specs.Disk.{Image}
use Rattle.root_file.specs.declared.Root.{Root}
use Rattle.root_file.specs.Root.{IsRoot}
use Rattle.new_database.specs.Maker.{root_file}
use Rattle.stable_lines.specs.Journal.{Journal}
use Rattle.backup_file.specs.declared.header.BackupHead.{BackupHead}
use Rattle.backup_file.specs.declared.line.BackupLine.{BackupLine}
use Rattle.backup_file.proofs.Unique.{same_head, same_lines}
use Rattle.backup_making.specs.Making.{file_of, slots_of}
use Rattle.backup_reading.specs.declared.reading.ReadBackup.{ReadBackup}
use Rattle.backup_reading.specs.Reading.{IsRead}
use Rattle.rmu_restore.specs.declared.restoring.Plan.{Plan}
use Rattle.rmu_restore.specs.Laying.{AreUpTo}
use Rattle.rmu_restore.specs.Restored.{IsSource, IsPlanned, HaveUpTo}

-- the root's ceiling is above these numbers
pub record IsAbove (old backup groups ceiling : ℕ) : Type 0 where
  pub drawn : old ≤ ceiling
  pub backup_is : backup < ceiling
  pub groups_are : groups < ceiling

pub is_planned : (former : Image) (number : ℕ) (classes : ℕ → ℕ) (head : BackupHead) (lines : List BackupLine) (journal : Journal) (read : ReadBackup) (plan : Plan) (old greatest : ℕ) → IsSource former number classes head lines journal → IsRead former number read
    → ((root : Root) → IsRoot (former root_file 0) root → root.ceiling ≤ old) → HaveUpTo greatest journal.groups → plan.root.state ≡ 3 → plan.root.limits ≡ read.head.limits → plan.root.applied ≡ read.head.last_group → plan.lines ≡ read.head.lines
    → IsAbove old read.greatest greatest plan.root.ceiling → IsPlanned former head lines journal plan
is_planned former number classes head lines journal read plan old greatest source is drawn up_to state limits applied count above = record {
  says = record {
    state = state;
    limits = limits ∙ ap (λ (h : BackupHead). h.limits) same;
    applied = applied ∙ ap (λ (h : BackupHead). h.last_group) same;
    ceiling = λ root was. let low = drawn root was in let up = above.drawn in omega (arith, low, up);
  };
  count = count ∙ ap (λ (h : BackupHead). h.lines) same;
  line = λ i l got. let low = lines_low i l got in let up = above.backup_is in omega (arith, low, up);
  group = λ i g got. let low = up_to i g got in let up = above.groups_are in omega (arith, low, up);
}
  where
    same : read.head ≡ head
    same = same_head (slots_of former (file_of number)) read.head head is.lines lines is.is.stores source.backup.stores

    lines_low : AreUpTo read.greatest lines
    lines_low = subst (λ (ls : List BackupLine). AreUpTo read.greatest ls) (same_lines (slots_of former (file_of number)) read.head head is.lines lines is.is.stores source.backup.stores) is.greatest
