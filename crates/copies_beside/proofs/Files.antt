-- The files of the database behind calls that write a backup.
use Rattle.std.proofs.Common.{◌≡◌, ℕ, IsTrue, List, ap}
use Rattle.rdb_types.specs.declared.file.FileId.{FileId}
use Rattle.rdb_types.specs.declared.file.FileKind.TheVariants.{Root, Area, Ruj, Snap, Aij, Backup}
use Rattle.rdb_outside.specs.Disk.{View, Pending}
use Rattle.new_database.specs.Maker.{root_file, aij_file}
use Rattle.backup_steps.specs.backup_making.Making.{file_of as backup_of}
use Rattle.backup_steps.specs.Beside.{IsBeside}
use Rattle.line_versions.specs.Files.{snap_file}
use Rattle.stable_lines.specs.Slots.{area_file, ruj_file, file_of, slot_of, line_on}
use Rattle.stable_lines.specs.Progress.{Progress}
use Rattle.stable_lines.specs.Facts.{Facts}
use Rattle.stable_lines.proofs.Fewer.{all}
use Rattle.line_moves.specs.Changes.{KeepsLines}

module _ (number : ℕ) (v w : View) (beside : IsBeside (backup_of number) v w) (t : IsTrue v.tells) where
  still : (file : FileId) (slot : ℕ) → (file.kind ≡ Backup → ⊥) → w.content file slot ≡ v.content file slot
  still file slot other = (beside.others t).content file slot (λ same. other (ap (λ (f : FileId). f.kind) same))

  fewer : (file : FileId) (slot : ℕ) (x : List ℕ) → (file.kind ≡ Backup → ⊥) → Pending w file slot x → Pending v file slot x
  fewer file slot x other p = (beside.others t).pending file slot x (λ same. other (ap (λ (f : FileId). f.kind) same)) p

  pub area_reads : (file slot : ℕ) → w.content (area_file file) slot ≡ v.content (area_file file) slot
  area_reads file slot = still (area_file file) slot (λ k. let bad : Area ≡ Backup = k in cc)

  pub journal_reads : (member slot : ℕ) → w.content (ruj_file member) slot ≡ v.content (ruj_file member) slot
  journal_reads member slot = still (ruj_file member) slot (λ k. let bad : Ruj ≡ Backup = k in cc)

  pub versions_read : (file slot : ℕ) → w.content (snap_file file) slot ≡ v.content (snap_file file) slot
  versions_read file slot = still (snap_file file) slot (λ k. let bad : Snap ≡ Backup = k in cc)

  pub groups_read : (slot : ℕ) → w.content aij_file slot ≡ v.content aij_file slot
  groups_read slot = still aij_file slot (λ k. let bad : Aij ≡ Backup = k in cc)

  pub root_reads : w.content root_file 0 ≡ v.content root_file 0
  root_reads = still root_file 0 (λ k. let bad : Root ≡ Backup = k in cc)

  pub area_left : (file slot : ℕ) (x : List ℕ) → Pending w (area_file file) slot x → Pending v (area_file file) slot x
  area_left file slot x p = fewer (area_file file) slot x (λ k. let bad : Area ≡ Backup = k in cc) p

  pub journal_left : (member slot : ℕ) (x : List ℕ) → Pending w (ruj_file member) slot x → Pending v (ruj_file member) slot x
  journal_left member slot x p = fewer (ruj_file member) slot x (λ k. let bad : Ruj ≡ Backup = k in cc) p

  pub groups_left : (slot : ℕ) (x : List ℕ) → Pending w aij_file slot x → Pending v aij_file slot x
  groups_left slot x p = fewer aij_file slot x (λ k. let bad : Aij ≡ Backup = k in cc) p

  pub root_left : (x : List ℕ) → Pending w root_file 0 x → Pending v root_file 0 x
  root_left x p = fewer root_file 0 x (λ k. let bad : Root ≡ Backup = k in cc) p

  pub facts_stay : (now : Progress) → Facts (Pending v) now → Facts (Pending w) now
  facts_stay now was = all (Pending v) (Pending w) now (λ member h p. journal_left member 0 h p) (λ member i x le p. journal_left member i x p)
      (λ file i x p. area_left file i x p) (λ i x p. groups_left i x p) (λ x p. root_left x p) was

  pub lines_stay : KeepsLines v.content w.content
  lines_stay key = ap (λ (bytes : List ℕ). line_on key bytes) (still (file_of key) (slot_of key) (λ k. let bad : Area ≡ Backup = k in cc))
