-- What a crash leaves at the moments of a backup, in the words of its clauses.
use Rattle.std.proofs.Common.{◌≡◌, ℕ, ◌+◌, IsTrue, List, length, slice_get, Some, ⊎_elim, refl, sym, subst}
use Rattle.rdb_outside.specs.Disk.{Image, View, LeftNow, Pending, LeavesOnly, IsPending, OnlyReads}
use Rattle.rdb_outside.specs.Moments.{each_slot, weaker}
use Rattle.backup_file.specs.declared.header.BackupHead.{BackupHead}
use Rattle.backup_file.specs.declared.line.BackupLine.{BackupLine}
use Rattle.backup_file.specs.Whole.{Stores, IsWhole, lines_in}
use Rattle.backup_making.specs.Making.{file_of, Former, IsEnded, slots_of}
use Rattle.line_view.specs.Knowledge.{Lines}
use Rattle.stable_lines.specs.Journal.{Journal, next_number}
use Rattle.stable_lines.specs.Kept.{Kept}
use Rattle.stable_lines.specs.Progress.{Progress}
use Rattle.stable_lines.specs.Facts.{Facts, StandsAs, as_committed, with_former, with_flight}
use Rattle.stable_lines.specs.History.{HasState}
use Rattle.stable_lines.specs.Rolling.{Rolls}
use Rattle.stable_lines.proofs.Rolls.{behind_begins, image_rolls}
use Rattle.stable_lines.proofs.Stands.{stands}
use Rattle.database_opening.specs.declared.start.StoreStart.{StoreStart}
use Rattle.database_opening.specs.Start.{beginning_with}
use Rattle.copied_lines.specs.Copying.{IsStopped}
use Rattle.whole_backup.specs.BackedUp.{IsBackedUp, HasBackup, the_old, none, the_new, WithinBackup, MightHold}
use Rattle.whole_backup.specs.Making.{IsBeginning, IsEnding}

module _ (classes : ℕ → ℕ) (lines : Lines) (journal : Journal) (start : StoreStart) where
  abbrev now : Progress
  now = beginning_with classes lines journal start

  pub kept_image : (image : Image) → StandsAs now image → Kept classes lines journal image
  kept_image image (as_committed kept) = kept
  kept_image image (with_former former is kept) = let nay : ⊥ = cc in absurd nay
  kept_image image (with_flight flight is kept) = let nay : ⊥ = cc in absurd nay

  has_state : (image : Image) → StandsAs now image → HasState (record { lines = lines; classes = classes }) image
  has_state image is = record { journal = journal; kept = kept_image image is }

  -- what the copies are
  module _ (v : View) (facts : Facts (Pending v) now) (last : ℕ) (next : last + 1 ≡ next_number journal) where
    rolls : (image : Image) → StandsAs now image → Rolls lines last image
    rolls image is = image_rolls (Pending v) now lines last image facts refl (behind_begins (Pending v) now last facts next) is

    module _ (number : ℕ) (head : BackupHead) (copies : List BackupLine) (group : head.last_group ≡ last) (whole : IsWhole head copies) (same : lines_in copies ≡ lines) (class : (i : ℕ) (line : BackupLine) → slice_get copies i ≡ Some line → line.class ≡ classes line.key.area) where
      backed_up : (image : Image) → StandsAs now image → Stores (slots_of image (file_of number)) head copies → IsBackedUp classes lines number image
      backed_up image is stores = record {
        head = head;
        copies = copies;
        is = record { stores = stores; whole = whole };
        has = same;
        class = class;
        rolls = subst (λ (n : ℕ). Rolls lines n image) (sym group) (rolls image is);
      }

      pub ended_backup : (w : View) → Facts (Pending w) now → head.lines ≡ length copies → IsEnded w (file_of number) head copies → (image : Image) → LeftNow w image → HasBackup classes lines number image
      ended_backup w kept count ended image left =
          let is : StandsAs now image = stands (Pending w) now kept image (each_slot w image left) in
          record {
            state = has_state image is;
            backup = backed_up image is (record {
              header = ended.header (image (file_of number) 0) (each_slot w image left (file_of number) 0);
              count = count;
              each = λ i line got. ended.stand i line (image (file_of number) (i + 1)) got (each_slot w image left (file_of number) (i + 1));
            });
          }

      pub ending_within : (former : Former) (image : Image) → IsEnding now head copies number image → WithinBackup classes lines former number image
      ending_within former image is = record { state = has_state image is.stands; backup = ⊎_elim (λ nothing. none nothing) (λ stores. the_new (backed_up image is.stands stores)) is.backup }

  pub stopped_within : (former : Former) (number : ℕ) (image : Image) → IsStopped now number image → WithinBackup classes lines former number image
  stopped_within former number image is = record { state = has_state image is.stands; backup = none is.none }

  pub beginning_within : (former : Former) (number : ℕ) (image : Image) → IsBeginning now former number image → WithinBackup classes lines former number image
  beginning_within former number image is = record { state = has_state image is.stands; backup = ⊎_elim (λ was. the_old was) (λ nothing. none nothing) is.backup }

  pub pending_within : (v : View) (former : Former) (number : ℕ) → Facts (Pending v) now → MightHold former v number → (image : Image) → IsPending v image → WithinBackup classes lines former number image
  pending_within v former number facts might image each = record {
    state = has_state image (stands (Pending v) now facts image each);
    backup = the_old (λ slot. might slot (image (file_of number) slot) (each (file_of number) slot));
  }

  pub read_within : (old new : View) (former : Former) (number : ℕ) → OnlyReads old new → IsTrue old.tells → Facts (Pending old) now → MightHold former old number → LeavesOnly old new (WithinBackup classes lines former number)
  read_within old new former number reads t facts might = weaker old new (IsPending old) (WithinBackup classes lines former number) (pending_within old former number facts might) (reads.leaves t)
