-- A backup behind an opening.
use Rattle.std.proofs.Common.{◌≡◌, ℕ, ◌⊎◌, inl, inr, ⊎_elim}
use Rattle.rdb_types.specs.declared.file.FileKind.TheVariants.{Area, Ruj, Backup as BackupFile}
use Rattle.rdb_outside.specs.Disk.{Image, View, Pending, LeavesOnly, IsPending}
use Rattle.rdb_outside.specs.Moments.{weaker}
use Rattle.backup_making.specs.Making.{file_of, Former}
use Rattle.line_view.specs.Knowledge.{Lines}
use Rattle.stable_lines.specs.Journal.{Journal}
use Rattle.stable_lines.specs.Kept.{Kept}
use Rattle.line_opening.proofs.Standing.{leaves_on}
use Rattle.database_opening.specs.Others.{IsOther, KeepsFile}
use Rattle.whole_backup.specs.BackedUp.{the_old, MightHold, WithinBackup, WithinWhole}

-- a backup is none of the files that an opening writes
pub is_other : (number : ℕ) → IsOther (file_of number)
is_other number = record {
  area = λ (same : BackupFile ≡ Area). let nay : ⊥ = cc in nay;
  journal = λ (same : BackupFile ≡ Ruj). let nay : ⊥ = cc in nay;
}

-- what two facts leave together
both : (old new : View) (P Q : Image → Type 0) → LeavesOnly old new P → LeavesOnly old new Q → LeavesOnly old new (λ image. P image × Q image)
both old new P Q first second = record {
  told = first.told;
  later = first.later;
  each = λ image left. (first.each image left, second.each image left);
  before = λ at image le left. ⊎_elim (λ was. inl was) (λ p. ⊎_elim (λ was. inl was) (λ q. inr (p, q)) (second.before at image le left)) (first.before at image le left);
}

module _ (classes : ℕ → ℕ) (lines : Lines) (journal : Journal) (former : Former) (number : ℕ) (old mid : View) (might : MightHold former old number) (keeps : KeepsFile (file_of number) old mid) where
  pub might_still : MightHold former mid number
  might_still slot bytes p = might slot bytes (keeps.pending slot bytes p)

  abbrev Slots : Image → Type 0
  Slots image = (slot : ℕ) → Pending old (file_of number) slot (image (file_of number) slot)

  abbrev Opening : Image → Type 0
  Opening image = IsPending old image ⊎ Kept classes lines journal image

  within : (image : Image) → Opening image × Slots image → WithinWhole old classes lines former number image
  within image (inl is, slots) = inl is
  within image (inr kept, slots) = inr (record { state = record { journal = journal; kept = kept }; backup = the_old (λ slot. might slot (image (file_of number) slot) (slots slot)) })

  -- whatever the opening answers
  pub opening_within : LeavesOnly old mid Opening → LeavesOnly old mid (WithinWhole old classes lines former number)
  opening_within leaves = weaker old mid (λ image. Opening image × Slots image) (WithinWhole old classes lines former number) within (both old mid Opening Slots leaves keeps.leaves)

  -- and with the backup behind it
  pub whole_within : LeavesOnly old mid Opening → (new : View) → LeavesOnly mid new (WithinBackup classes lines former number) → LeavesOnly old new (WithinWhole old classes lines former number)
  whole_within leaves new behind = leaves_on old mid new (WithinWhole old classes lines former number) (opening_within leaves)
      (weaker mid new (WithinBackup classes lines former number) (WithinWhole old classes lines former number) (λ image is. inr is) behind)
