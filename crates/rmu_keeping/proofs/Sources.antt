-- A backup that BACKUP left may be restored, whatever became of the database since.
use Rattle.std.proofs.Common.{◌≡◌, ℕ, ◌+◌, List, sym, subst}
use Rattle.rdb_outside.specs.Disk.{Image}
use Rattle.backup_file.specs.Header.{IsHead}
use Rattle.backup_file.specs.Line.{IsBackupLine}
use Rattle.backup_file.specs.Whole.{Stores}
use Rattle.backup_making.specs.Making.{file_of, slots_of}
use Rattle.line_view.specs.Knowledge.{Lines}
use Rattle.stable_lines.specs.Journal.{Journal}
use Rattle.stable_lines.specs.Kept.{Kept}
use Rattle.rmu_restore.specs.Restored.{IsSource}
use Rattle.whole_backup.specs.BackedUp.{IsBackedUp}

module _ (classes : ℕ → ℕ) (lines : Lines) (number : ℕ) (image later : Image) (was : IsBackedUp classes lines number image) (still : (slot : ℕ) → later (file_of number) slot ≡ image (file_of number) slot) where
  stores : Stores (slots_of later (file_of number)) was.head was.copies
  stores = record {
    header = subst (λ (b : List ℕ). IsHead b was.head) (sym (still 0)) was.is.stores.header;
    count = was.is.stores.count;
    each = λ i line got. subst (λ (b : List ℕ). IsBackupLine b (i + 1) line) (sym (still (i + 1))) (was.is.stores.each i line got);
  }

  -- RESTORE then makes a database of the lines that were backed up (`was.has`).
  pub restorable : (its : ℕ → ℕ) (present : Lines) (journal : Journal) → Kept its present journal later → IsSource later number classes was.head was.copies journal
  restorable its present journal kept = record { backup = record { stores = stores; whole = was.is.whole }; class = was.class; has_journal = kept.journal; commits = kept.commits }
