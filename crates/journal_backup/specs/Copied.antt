-- The after-image journal and its copy.
use Rattle.std.specs.Prelude.{ℕ, ◌≡◌, ◌≢◌, []}
use Rattle.rdb_types.specs.declared.file.FileId.{FileId}
use Rattle.rdb_types.specs.declared.file.FileKind.TheVariants.{AijBackup}
use Rattle.rdb_outside.specs.Disk.{Image}
use Rattle.line_view.specs.Knowledge.{Lines}
use Rattle.new_database.specs.Maker.{aij_file}
use Rattle.stable_lines.specs.Journal.{Journal, IsJournalOf, next_number}
use Rattle.stable_lines.specs.Kept.{Kept}
use Rattle.journal_anew.specs.Anew.{no_groups}

-- the copy of the journal of this number
abbrev pub copy_named : ℕ → FileId
copy_named number = record { kind = AijBackup; number = number }

-- The slots of the copy are those of this journal, with its groups and no others behind them.
abbrev pub HasCopy : Image → ℕ → Journal → Type 0
HasCopy image number journal = IsJournalOf (λ f slot. image (copy_named number) slot) journal

-- The same lines stand. Each group is in the journal, or in its copy, and the journal goes on behind.
pub data HasEachGroup (classes : ℕ → ℕ) (lines : Lines) (journal : Journal) (number : ℕ) (image : Image) : Type 0 where
  in_journal : Kept classes lines journal image → HasEachGroup classes lines journal number image
  in_copy : HasCopy image number journal → Kept classes lines (no_groups (next_number journal)) image → HasEachGroup classes lines journal number image

-- What is behind the copying: the journal is empty, and its groups are in the copy; or there was none.
pub data IsBackedUp (classes : ℕ → ℕ) (lines : Lines) (journal : Journal) (number : ℕ) (image : Image) : Type 0 where
  none : journal.groups ≡ [] → Kept classes lines journal image → IsBackedUp classes lines journal number image
  emptied : HasCopy image number journal → Kept classes lines (no_groups (next_number journal)) image → IsBackedUp classes lines journal number image

-- neither the journal nor this copy of it
pub record IsAside (number : ℕ) (file : FileId) : Type 0 where
  pub journal : file ≢ aij_file
  pub copy : file ≢ copy_named number
