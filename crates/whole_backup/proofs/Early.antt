-- A backup before its lines, and one behind them.
use Rattle.std.proofs.Common.{◌≡◌, ℕ, zero, suc, Bool, true, false, IsTrue, List, [], ◌⊎◌, inl, inr, ⊎_elim, refl, sym, subst, arith}
use Rattle.rdb_outside.specs.Disk.{Image, View, LeftNow, Pending, zeros}
use Rattle.rdb_outside.specs.Moments.{each_slot}
use Rattle.backup_file.specs.declared.header.BackupHead.{BackupHead}
use Rattle.backup_file.specs.declared.line.BackupLine.{BackupLine}
use Rattle.backup_file.specs.Whole.{Stores}
use Rattle.backup_making.specs.declared.making.Backup.{Backup}
use Rattle.backup_making.specs.declared.making.Stage.{Stage}
use Rattle.backup_making.specs.declared.making.Stage.TheVariants.{Begun, Blanked, Open, Closed, Headed, Ended}
use Rattle.backup_making.specs.Making.{file_of, Former, head_of, IsFormer, StandsAt, IsAt, WasFormer, StoresNothing, slots_of, Leaves, the_old, none, the_new}
use Rattle.backup_making.proofs.Stages.{no_head, leaves}
use Rattle.stable_lines.specs.Progress.{Progress}
use Rattle.stable_lines.specs.Facts.{Facts}
use Rattle.stable_lines.proofs.Stands.{stands}
use Rattle.whole_backup.specs.BackedUp.{MightHold}
use Rattle.whole_backup.specs.Making.{IsBeginning, IsEnding}

-- ---- before its lines

abbrev pub is_early : Stage → Bool
is_early Begun = true
is_early Blanked = true
is_early Open = true
is_early _ = false

pub starts_at : (former : Former) (v : View) (b : Backup) → b.stage ≡ Begun → b.lines ≡ 0 → MightHold former v b.number → IsAt former v b []
starts_at former v b begun count might = record {
  count = count;
  stands = subst (λ (s : Stage). StandsAt former v (file_of b.number) (head_of b []) [] s) (sym begun) ((λ i x p. inl (might i x p)), refl);
}

module _ (former : Former) (number : ℕ) (v : View) (image : Image) (left : LeftNow v image) where
  old_or_none : IsFormer former v (file_of number) → WasFormer former (slots_of image (file_of number)) ⊎ StoresNothing (slots_of image (file_of number))
  old_or_none was = ⊎_elim (λ first. inl (each first)) (λ blank. inr (no_head number (image (file_of number) 0) blank.1)) (slot 0)
    where
      slot : (i : ℕ) → IsTrue (former i (image (file_of number) i)) ⊎ ((i ≡ 0) × (image (file_of number) i ≡ zeros (file_of number)))
      slot i = was i (image (file_of number) i) (each_slot v image left (file_of number) i)

      each : IsTrue (former 0 (image (file_of number) 0)) → WasFormer former (slots_of image (file_of number))
      each first zero = first
      each first (suc i) = ⊎_elim (λ before. before) (λ there. absurd (let bad : suc i ≡ 0 = there.0 in omega (arith, bad))) (slot (suc i))

  early_at : (head : BackupHead) (lines : List BackupLine) (stage : Stage) → is_early stage ≡ true → StandsAt former v (file_of number) head lines stage → WasFormer former (slots_of image (file_of number)) ⊎ StoresNothing (slots_of image (file_of number))
  early_at head lines Begun is at = old_or_none at.0
  early_at head lines Blanked is at = old_or_none at.0.slots
  early_at head lines Open is at = inr (no_head number (image (file_of number) 0) (at.blank (image (file_of number) 0) (each_slot v image left (file_of number) 0)))
  early_at head lines Closed is at = let nay : ⊥ = cc in absurd nay
  early_at head lines Headed is at = let nay : ⊥ = cc in absurd nay
  early_at head lines Ended is at = let nay : ⊥ = cc in absurd nay

pub beginning_now : (now : Progress) (former : Former) (v : View) (b : Backup) (lines : List BackupLine) → is_early b.stage ≡ true → IsAt former v b lines → Facts (Pending v) now → (image : Image) → LeftNow v image → IsBeginning now former b.number image
beginning_now now former v b lines early at facts image left = record {
  stands = stands (Pending v) now facts image (each_slot v image left);
  backup = early_at former b.number v image left (head_of b lines) lines b.stage early at.stands;
}

-- ---- behind its lines

-- where none stood before, none is left
abbrev nothing_before : Former
nothing_before slot bytes = false

no_former : (slots : ℕ → List ℕ) → WasFormer nothing_before slots → ⊥
no_former slots was = let first : IsTrue false = was 0 in let nay : ⊥ = cc in nay

-- what stands at a later stage doesn't speak of what stood before
late_at : (former : Former) (v : View) (number : ℕ) (head : BackupHead) (lines : List BackupLine) (stage : Stage) → (stage ≡ Open) ⊎ (is_early stage ≡ false) → StandsAt former v (file_of number) head lines stage → StandsAt nothing_before v (file_of number) head lines stage
late_at former v number head lines Open either at = at
late_at former v number head lines Closed either at = at
late_at former v number head lines Headed either at = at
late_at former v number head lines Ended either at = at
late_at former v number head lines Begun either at = absurd (⊎_elim (λ bad. let nay : ⊥ = cc in nay) (λ bad. let nay : ⊥ = cc in nay) either)
late_at former v number head lines Blanked either at = absurd (⊎_elim (λ bad. let nay : ⊥ = cc in nay) (λ bad. let nay : ⊥ = cc in nay) either)

pub ending_now : (now : Progress) (former : Former) (v : View) (b : Backup) (lines : List BackupLine) → (b.stage ≡ Open) ⊎ (is_early b.stage ≡ false) → IsAt former v b lines → Facts (Pending v) now → (image : Image) → LeftNow v image → IsEnding now (head_of b lines) lines b.number image
ending_now now former v b lines late at facts image left = record {
  stands = stands (Pending v) now facts image (each_slot v image left);
  backup = by (leaves nothing_before b lines v (record { count = at.count; stands = late_at former v b.number (head_of b lines) lines b.stage late at.stands }) image left);
}
  where
    by : Leaves nothing_before (head_of b lines) lines (slots_of image (file_of b.number)) → StoresNothing (slots_of image (file_of b.number)) ⊎ Stores (slots_of image (file_of b.number)) (head_of b lines) lines
    by (the_old was) = absurd (no_former (slots_of image (file_of b.number)) was)
    by (none is) = inl is
    by (the_new is) = inr is
