-- A restore call by call: what each image is, and which files are as they were.
use Rattle.std.proofs.Common.{◌≡◌, ◌≢◌, ℕ, ◌-◌, ◌≤◌, List, inl, inr, IsTrue, sym, ap, subst, ◌∙◌, arith}
use Rattle.rdb_types.specs.declared.file.FileId.{FileId}
use Rattle.rdb_types.specs.declared.file.FileKind.TheVariants.{Root as RootKind, Area, Snap, Ruj, Aij, Backup}
use Rattle.rdb_outside.specs.Disk.{Image, View, LeavesOnly, IsPending, OnlyReads, zeros}
use Rattle.rdb_outside.specs.Moments.{weaker}
use Rattle.new_database.specs.Maker.{root_file, aij_file}
use Rattle.line_opening.proofs.Passed.{image_same}
use Rattle.line_opening.proofs.Standing.{leaves_on}
use Rattle.line_moves.proofs.Runs.{still_tells}
use Rattle.stable_lines.specs.Slots.{ruj_file, IsMember}
use Rattle.stable_lines.specs.Journal.{Journal}
use Rattle.backup_file.specs.declared.header.BackupHead.{BackupHead}
use Rattle.backup_file.specs.declared.line.BackupLine.{BackupLine}
use Rattle.backup_file.specs.Whole.{IsBackup}
use Rattle.backup_making.specs.Making.{file_of, slots_of}
use Rattle.backup_reading.specs.Reading.{IsBackupOf}
use Rattle.database_opening.specs.Others.{KeepsFile}
use Rattle.database_opening.proofs.Others.{file_on}
use Rattle.guarded_lines.specs.Laying.{IsArea}
use Rattle.guarded_root.specs.Guarded.{IsInState, IsGuarded, BeforeOrIn, IsEndOf, InOrEnd, RunsBehind}
use Rattle.rmu_restore.specs.declared.restoring.Plan.{Plan}
use Rattle.rmu_restore.specs.Laying.{IsWritten, IsOther, IsBlank, HasLaid, AreUpTo}
use Rattle.rmu_restore.specs.Restored.{IsSource, IsPlanned, IsRestored, WithinRestore, as_before, unfinished, restored}
use Rattle.rmu_restore.proofs.Ended.{is_restored}

-- ---- files

backup_apart : (number : ℕ) → file_of number ≢ root_file
backup_apart number is = let bad : Backup ≡ RootKind = ap (λ (f : FileId). f.kind) is in cc

backup_not : (number : ℕ) → IsWritten (file_of number) → ⊥
backup_not number (inl is) = let bad : Backup ≡ Area = is in cc
backup_not number (inr (inl is)) = let bad : Backup ≡ Ruj = is in cc
backup_not number (inr (inr is)) = let bad : Backup ≡ Snap = is in cc

aij_apart : aij_file ≢ root_file
aij_apart is = let bad : Aij ≡ RootKind = ap (λ (f : FileId). f.kind) is in cc

aij_not : IsWritten aij_file → ⊥
aij_not (inl is) = let bad : Aij ≡ Area = is in cc
aij_not (inr (inl is)) = let bad : Aij ≡ Ruj = is in cc
aij_not (inr (inr is)) = let bad : Aij ≡ Snap = is in cc

aij_not_area : IsArea aij_file → ⊥
aij_not_area is = let bad : Aij ≡ Area = is in cc

ruj_not_area : (m : ℕ) → IsArea (ruj_file m) → ⊥
ruj_not_area m is = let bad : Ruj ≡ Area = is in cc

other_not : (file : FileId) → IsOther file → IsWritten file → ⊥
other_not file other (inl is) = other.area is
other_not file other (inr (inl is)) = other.journal is
other_not file other (inr (inr is)) = other.snapshot is

-- ---- a backup whose slots are as they were

pub backup_still : (old new : Image) (number : ℕ) (head : BackupHead) (lines : List BackupLine) → ((slot : ℕ) → new (file_of number) slot ≡ old (file_of number) slot) → IsBackupOf old number head lines → IsBackupOf new number head lines
backup_still old new number head lines same is =
    let slots : slots_of old (file_of number) ≡ slots_of new (file_of number) = λ i slot. sym (same slot) i in
    subst (λ (s : ℕ → List ℕ). IsBackup s head lines) slots is

-- ---- while the root that guards is on its way

pub within_guard : (classes : ℕ → ℕ) (head : BackupHead) (lines : List BackupLine) (journal : Journal) (old guarded : View) → LeavesOnly old guarded (BeforeOrIn old 2) → LeavesOnly old guarded (WithinRestore old classes head lines journal)
within_guard classes head lines journal old guarded before = weaker old guarded (BeforeOrIn old 2) (WithinRestore old classes head lines journal) early before
  where
    early : (image : Image) → BeforeOrIn old 2 image → WithinRestore old classes head lines journal image
    early image (inl is) = as_before is
    early image (inr is) = unfinished is

-- ---- behind it

module _ (number : ℕ) (classes : ℕ → ℕ) (head : BackupHead) (lines : List BackupLine) (journal : Journal) (plan : Plan) (old guarded blanked laid : View) (t : IsTrue old.tells) (source : IsSource old.content number classes head lines journal) (planned : IsPlanned old.content head lines journal plan) (some : 1 ≤ plan.root.ceiling)
    (told : guarded.tells ≡ old.tells) (keeps : (file : FileId) → file ≢ root_file → KeepsFile file old guarded) (is_guarded : IsGuarded 2 guarded) (before : LeavesOnly old guarded (BeforeOrIn old 2)) where
  now_tells : IsTrue guarded.tells
  now_tells = still_tells old guarded told t

  -- ---- while the files become zeros

  module _ (blanks : RunsBehind IsWritten guarded blanked) where
    blanked_tells : IsTrue blanked.tells
    blanked_tells = still_tells guarded blanked blanks.told now_tells

    blanked_guarded : IsGuarded 2 blanked
    blanked_guarded = blanks.guarded 2 now_tells is_guarded

    pub within_blanks : LeavesOnly old blanked (WithinRestore old classes head lines journal)
    within_blanks = leaves_on old guarded blanked (WithinRestore old classes head lines journal) (within_guard classes head lines journal old guarded before) (weaker guarded blanked (IsInState 2) (WithinRestore old classes head lines journal) (λ image is. unfinished is) (blanks.leaves 2 now_tells is_guarded))

    backup_blanked : (slot : ℕ) → blanked.content (file_of number) slot ≡ old.content (file_of number) slot
    backup_blanked slot = (blanks.others now_tells (file_of number) (backup_not number)).content slot ∙ (keeps (file_of number) (backup_apart number)).content slot

    pub backup_there : IsBackupOf blanked.content number head lines
    backup_there = backup_still old.content blanked.content number head lines backup_blanked source.backup

    pub lines_up_to : AreUpTo (plan.root.ceiling - 1) lines
    lines_up_to i line got = let few = planned.line i line got in omega (arith, few)

    -- ---- while lines are laid

    module _ (lays : RunsBehind IsArea blanked laid) where
      laid_tells : IsTrue laid.tells
      laid_tells = still_tells blanked laid lays.told blanked_tells

      laid_guarded : IsGuarded 2 laid
      laid_guarded = lays.guarded 2 blanked_tells blanked_guarded

      pub within_lays : LeavesOnly old laid (WithinRestore old classes head lines journal)
      within_lays = leaves_on old blanked laid (WithinRestore old classes head lines journal) within_blanks (weaker blanked laid (IsInState 2) (WithinRestore old classes head lines journal) (λ image is. unfinished is) (lays.leaves 2 blanked_tells blanked_guarded))

      -- ---- at its end

      module _ (blank : IsBlank blanked.content) (has : HasLaid head.limits.pages (plan.root.ceiling - 1) lines laid.content) where
        journals : (m slot : ℕ) → IsMember m → laid.content (ruj_file m) slot ≡ zeros (ruj_file m)
        journals m slot is = (lays.others blanked_tells (ruj_file m) (ruj_not_area m)).content slot ∙ blank.journal m slot is

        journal_still : (slot : ℕ) → laid.content aij_file slot ≡ old.content aij_file slot
        journal_still slot = (lays.others blanked_tells aij_file aij_not_area).content slot ∙ (blanks.others now_tells aij_file aij_not).content slot ∙ (keeps aij_file aij_apart).content slot

        pub restored_image : (image : Image) → IsEndOf laid.content plan.root image → IsRestored old.content classes head lines journal image
        restored_image image ended = is_restored old.content number classes head lines journal plan laid.content image source planned has journals journal_still ended

        late : (image : Image) → InOrEnd 2 laid.content plan.root image → WithinRestore old classes head lines journal image
        late image (inl is) = unfinished is
        late image (inr is) = restored (restored_image image is)

        pub within_end : (new : View) → ((state : ℕ) → IsTrue laid.tells → IsGuarded state laid → LeavesOnly laid new (InOrEnd state laid.content plan.root)) → LeavesOnly old new (WithinRestore old classes head lines journal)
        within_end new ends = leaves_on old laid new (WithinRestore old classes head lines journal) within_lays (weaker laid new (InOrEnd 2 laid.content plan.root) (WithinRestore old classes head lines journal) late (ends 2 laid_tells laid_guarded))

-- ---- other files

module _ (old guarded blanked : View) (t : IsTrue old.tells) (told : guarded.tells ≡ old.tells) (keeps : (file : FileId) → file ≢ root_file → KeepsFile file old guarded) (blanks : RunsBehind IsWritten guarded blanked) (file : FileId) (other : IsOther file) where
  pub kept_by_blanks : KeepsFile file old blanked
  kept_by_blanks = file_on old guarded blanked file (keeps file other.root) (blanks.others (still_tells old guarded told t) file (other_not file other))

  pub kept_by_lays : (laid : View) → RunsBehind IsArea blanked laid → KeepsFile file old laid
  kept_by_lays laid lays = file_on old blanked laid file kept_by_blanks (lays.others (still_tells guarded blanked blanks.told (still_tells old guarded told t)) file other.area)

-- ---- behind reads

module _ (number : ℕ) (classes : ℕ → ℕ) (head : BackupHead) (lines : List BackupLine) (journal : Journal) (old mid : View) (reads : OnlyReads old mid) (t : IsTrue old.tells) where
  pub source_still : IsSource old.content number classes head lines journal → IsSource mid.content number classes head lines journal
  source_still = subst (λ (m : Image). IsSource m number classes head lines journal) (sym (image_same old mid reads t))

  pub planned_still : (plan : Plan) → IsPlanned old.content head lines journal plan → IsPlanned mid.content head lines journal plan
  planned_still plan = subst (λ (m : Image). IsPlanned m head lines journal plan) (sym (image_same old mid reads t))

  pub restored_before : (image : Image) → IsRestored mid.content classes head lines journal image → IsRestored old.content classes head lines journal image
  restored_before image = subst (λ (m : Image). IsRestored m classes head lines journal image) (image_same old mid reads t)

  within_before : (image : Image) → WithinRestore mid classes head lines journal image → WithinRestore old classes head lines journal image
  within_before image (as_before is) = as_before (λ file slot. (reads.keeps t).pending file slot (image file slot) (is file slot))
  within_before image (unfinished is) = unfinished is
  within_before image (restored is) = restored (restored_before image is)

  pub within_reads : LeavesOnly old mid (WithinRestore old classes head lines journal)
  within_reads = weaker old mid (IsPending old) (WithinRestore old classes head lines journal) (λ image is. as_before is) (reads.leaves t)

  pub within_behind : (new : View) → LeavesOnly mid new (WithinRestore mid classes head lines journal) → LeavesOnly old new (WithinRestore old classes head lines journal)
  within_behind new leaves = leaves_on old mid new (WithinRestore old classes head lines journal) within_reads (weaker mid new (WithinRestore mid classes head lines journal) (WithinRestore old classes head lines journal) within_before leaves)
