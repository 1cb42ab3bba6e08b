-- What is rolled forward is sound.
use Rattle.std.proofs.Common.{◌≡◌, ℕ, zero, suc, ◌+◌, ◌≤◌, List, [], ◌∷◌, length, Some, None, ◌⊎◌, inl, inr, ⊎_elim, refl, sym, ◌∙◌, ap, subst, arith}
use Rattle.rdb_types.specs.declared.keys.Dbkey.{Dbkey}
use Rattle.rdb_types.specs.declared.keys.LineState.{LineState}
use Rattle.rdb_types.specs.declared.keys.LineState.TheVariants.{Never, Present, Erased}
use Rattle.rdb_outside.specs.Disk.{Image}
use Rattle.rdb_page.specs.Page.{class_at}
use Rattle.area_files.specs.Areas.{IsDataPage}
use Rattle.aij_journal.specs.declared.part.GroupLine.{GroupLine}
use Rattle.journal_scan.specs.declared.group.Group.{Group}
use Rattle.line_view.specs.Knowledge.{Lines, line_in}
use Rattle.line_versions.specs.Lines.{storage_area, shown, shown_as}
use Rattle.backup_file.specs.declared.header.BackupHead.{BackupHead}
use Rattle.backup_file.specs.declared.line.BackupLine.{BackupLine}
use Rattle.backup_file.specs.Whole.{lines_in}
use Rattle.backup_reading.specs.Reading.{IsBackupOf}
use Rattle.stable_lines.specs.Slots.{file_of, slot_of, owner_at}
use Rattle.stable_lines.specs.Journal.{Journal, lines_behind}
use Rattle.stable_lines.specs.Rolling.{laid_groups}
use Rattle.stable_lines.proofs.Laying.{found_behind}
use Rattle.stable_lines.proofs.Never.{nothing_on}
use Rattle.line_moves.proofs.KeyPlaces.{file_is}
use Rattle.rmu_restore.specs.Restored.{IsRestored}
use Rattle.rmu_restore.proofs.Finding.{some_found}
use Rattle.rmu_recover.specs.Recovering.{AreSound}
use Rattle.fitted_groups.specs.Meeting.{lines_among, first_there, class_behind, FitPages}
use Rattle.fitted_groups.proofs.Meeting.{IsAmong, in_front, behind_front, class_stays}
use Rattle.restored_rolls.specs.Meeting.{forward_over, HaveClasses, AreOfClasses}
use Rattle.restored_rolls.proofs.Slots.{as_it_is}

-- ---- a line behind groups is one of theirs, or was there before

-- one of the lines of the groups, with this key and these bytes
pub record IsOfGroups (groups : List Group) (key : Dbkey) (bytes : List ℕ) : Type 0 where
  pub line : GroupLine
  pub among : IsAmong groups line
  pub same_key : line.key ≡ key
  pub bytes_are : line.image ≡ bytes

shown_bytes : (state : LineState) (image bytes : List ℕ) → shown_as state image ≡ Some bytes → image ≡ bytes
shown_bytes Never image bytes is = let bad : None ≡ Some bytes = is in absurd (cc)
shown_bytes Present image bytes is = let same : Some image ≡ Some bytes = is in let it : image ≡ bytes = cc in it
shown_bytes Erased image bytes is = let bad : None ≡ Some bytes = is in absurd (cc)

pub whose_line : (groups : List Group) (lines : Lines) (key : Dbkey) (bytes : List ℕ) → line_in key (laid_groups groups lines) ≡ Some bytes → IsOfGroups groups key bytes ⊎ (line_in key lines ≡ Some bytes)
whose_line [] lines key bytes is = inr is
whose_line (g ∷ gs) lines key bytes is = ⊎_elim
    (λ (later : IsOfGroups gs key bytes). inl (record {
      line = later.line;
      among = record { index = length g.lines + later.among.index; is = behind_front g.lines (lines_among gs) later.among.index ∙ later.among.is };
      same_key = later.same_key;
      bytes_are = later.bytes_are;
    }))
    (λ (early : line_in key (lines_behind g lines) ≡ Some bytes). ⊎_elim
    (λ of. inl (record {
      line = of.line;
      among = record { index = of.index; is = in_front g.lines (lines_among gs) of.index of.line of.is };
      same_key = of.same_key;
      bytes_are = shown_bytes of.line.state of.line.image bytes (sym of.found ∙ early);
    }))
    (λ left. inr (sym left.found ∙ early))
    (found_behind key g.lines lines))
    (whose_line gs (lines_behind g lines) key bytes is)

module _ (was image : Image) (classes : ℕ → ℕ) (head : BackupHead) (lines : List BackupLine) (journal : Journal) (groups : List Group) (is : IsRestored was classes head lines journal image) (fit : FitPages image head.limits.pages groups) where
  -- a page with a line has an owner
  some_owner : (key : Dbkey) (bytes : List ℕ) → line_in key (lines_in lines) ≡ Some bytes → 1 ≤ owner_at (image (file_of key) (slot_of key))
  some_owner key bytes got = by (owner_at (image (file_of key) (slot_of key))) refl
    where
      by : (n : ℕ) → owner_at (image (file_of key) (slot_of key)) ≡ n → 1 ≤ owner_at (image (file_of key) (slot_of key))
      by zero none = let bad : None ≡ Some bytes = sym (ap shown (nothing_on key (image (file_of key) (slot_of key)) none)) ∙ as_it_is image classes (lines_in lines) journal is.kept is.root is.is is.says.state key ∙ got in absurd (let no : ⊥ = cc in no)
      by (suc n) some = omega (arith, some)

  -- ---- the class of the page of a line

  of_backup : (key : Dbkey) (bytes : List ℕ) → line_in key (lines_in lines) ≡ Some bytes → class_behind image groups (storage_area key.area) key.page ≡ classes key.area
  of_backup key bytes got = class_stays (owner_at (image (file_of key) (slot_of key))) (class_at (image (file_of key) (slot_of key))) (first_there (storage_area key.area) key.page (lines_among groups)) (some_owner key bytes got) ∙ (is.kept.class key bytes got).same

  of_groups : (key : Dbkey) (bytes : List ℕ) (of : IsOfGroups groups key bytes) → class_behind image groups (storage_area key.area) key.page ≡ of.line.class
  of_groups key bytes of =
      let it = fit of.among.index of.line of.among.is in
      let page : it.place.page ≡ key.page = it.names.page ∙ ap (λ (k : Dbkey). k.page) of.same_key in
      let file : it.place.file ≡ storage_area key.area = file_is of.line.key it.place it.names ∙ ap (λ (k : Dbkey). storage_area k.area) of.same_key in
      sym (ap (λ (f : ℕ). class_behind image groups f it.place.page) file ∙ ap (class_behind image groups (storage_area key.area)) page) ∙ it.class

  -- the bytes fit it
  fits_class : (key : Dbkey) (bytes : List ℕ) → line_in key (laid_groups groups (lines_in lines)) ≡ Some bytes → length bytes ≤ class_behind image groups (storage_area key.area) key.page
  fits_class key bytes got = ⊎_elim
      (λ (of : IsOfGroups groups key bytes). subst (λ (n : ℕ). length bytes ≤ n) (sym (of_groups key bytes of)) (subst (λ (b : List ℕ). length b ≤ of.line.class) of.bytes_are (fit of.among.index of.line of.among.is).allowed.image))
      (λ (there : line_in key (lines_in lines) ≡ Some bytes). subst (λ (n : ℕ). length bytes ≤ n) (sym (of_backup key bytes there)) (is.kept.class key bytes there).fits)
      (whose_line groups (lines_in lines) key bytes got)

  -- lines of the classes of their areas give pages of these
  pub have_classes : AreOfClasses groups classes → HaveClasses image groups (lines_in lines) classes
  have_classes each key bytes got = ⊎_elim
      (λ (of : IsOfGroups groups key bytes). of_groups key bytes of ∙ each of.among.index of.line of.among.is ∙ ap (λ (k : Dbkey). classes k.area) of.same_key)
      (of_backup key bytes)
      (whose_line groups (lines_in lines) key bytes got)

  -- ---- what is rolled forward

  module _ (number : ℕ) (backup : IsBackupOf was number head lines) where
    lie : (key : Dbkey) (bytes : List ℕ) → line_in key (lines_in lines) ≡ Some bytes → IsDataPage key.page
    lie key bytes got = let found = some_found lines key bytes got in subst (λ (k : Dbkey). IsDataPage k.page) found.keys (backup.whole.on_pages found.index found.line found.is).page

    pub sound : (now : ℕ → ℕ) → HaveClasses image groups (lines_in lines) now → AreSound (forward_over image is.root (lines_in lines) groups) groups now
    sound now have = record {
      in_order = is.kept.stands.in_order;
      lie = lie;
      class = have;
      fits = λ key bytes got. subst (λ (n : ℕ). length bytes ≤ n) (have key bytes got) (fits_class key bytes got);
    }
