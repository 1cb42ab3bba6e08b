-- The copies of all lines are a whole backup.
use Rattle.std.proofs.Common.{◌≡◌, ℕ, zero, suc, ◌-◌, ◌≤◌, ◌<◌, true, false, cond, List, [], ◌∷◌, slice_get, Some, None, ◌⊎◌, inl, inr, refl, sym, ap, subst, ◌∙◌, arith}
use Rattle.std.specs.Ordering.{is_eq}
use Rattle.std.specs.Cmp.{tied_itself}
use Rattle.rdb_types.specs.declared.keys.Dbkey.{Dbkey}
use Rattle.rdb_types.specs.Order.{dbkey_order}
use Rattle.rdb_types.specs.OrderLaws.{dbkey_total}
use Rattle.rdb_outside.specs.Disk.{View, LeftNow, Pending, zeros}
use Rattle.rdb_page.specs.Page.{IsOwner, lines_of, class_at}
use Rattle.root_file.specs.Root.{AreLimits}
use Rattle.new_database.specs.Maker.{root_file}
use Rattle.backup_file.specs.declared.line.BackupLine.{BackupLine}
use Rattle.backup_file.specs.Whole.{HasPage, SharePages, IsWhole, lines_in}
use Rattle.backup_making.specs.declared.making.Backup.{Backup}
use Rattle.backup_making.specs.Making.{Former, head_of}
use Rattle.line_versions.specs.Lines.{storage_area}
use Rattle.line_view.specs.Knowledge.{Lines, line_in}
use Rattle.stable_lines.specs.Slots.{area_file, ruj_file, file_of, slot_of, owner_at, IsAreaFile, IsMember, named}
use Rattle.stable_lines.specs.Journal.{Journal}
use Rattle.stable_lines.specs.Kept.{Kept, FitsClass}
use Rattle.stable_lines.specs.Progress.{Progress}
use Rattle.stable_lines.specs.Facts.{Facts}
use Rattle.stable_lines.proofs.Unique.{one_lines}
use Rattle.rolled_lines.proofs.Restored.{restored_stands}
use Rattle.line_moves.proofs.Reading.{owner_is, class_is}
use Rattle.line_moves.proofs.Runs.{pends}
use Rattle.line_moves.proofs.Spots.{not_unused}
use Rattle.used_pages.specs.Pages.{bytes_at}
use Rattle.copied_lines.specs.Copying.{IsOnPage, AreOnPages, Copying}
use Rattle.copied_lines.proofs.OnPages.{file_of_area}
use Rattle.whole_backup.proofs.Unused.{zeros_unused}

file_of_owner : (file area : ℕ) → IsOwner file area → IsAreaFile file
file_of_owner file area (inl is) = let at = is.0 in record { first = omega (arith, at); last = omega (arith, at) }
file_of_owner file area (inr (inl is)) = let at = is.0 in record { first = omega (arith, at); last = omega (arith, at) }
file_of_owner file area (inr (inr is)) = let at = is.0 in record { first = omega (arith, at); last = omega (arith, at) }

-- a line of the copies is one of the map
some_there : (copies : List BackupLine) (i : ℕ) (line : BackupLine) → slice_get copies i ≡ Some line → (bytes : List ℕ) × (line_in line.key (lines_in copies) ≡ Some bytes)
some_there [] i line got = let bad : None ≡ Some line = got in absurd (cc)
some_there (l ∷ copies) zero line got =
    let same : l ≡ line = cc in
    (l.image, ap (λ (k : Dbkey). line_in k (lines_in (l ∷ copies))) (sym (ap (λ (x : BackupLine). x.key) same)) ∙ ap (λ r. cond (is_eq r) (Some l.image) (line_in l.key (lines_in copies))) (tied_itself dbkey_total l.key))
some_there (l ∷ copies) (suc i) line got =
    elim (is_eq (dbkey_order line.key l.key)) as (λ b. (bytes : List ℕ) × (cond b (Some l.image) (line_in line.key (lines_in copies)) ≡ Some bytes)) [
      | true ↦ (l.image, refl)
      | false ↦ some_there copies i line got
    ]

module _ (v : View) (now : Progress) (left : LeftNow v v.content) (facts : Facts (Pending v) now) where
  -- what is past the limit was never used
  within : (l : BackupLine) → IsOnPage v.content l → l.key.page ≤ now.limits.pages
  within l on = by (cases l.key.page now.limits.pages)
    where
      cases : (a b : ℕ) → (a ≤ b) ⊎ (b < a)
      cases a b = grind arith

      by : (l.key.page ≤ now.limits.pages) ⊎ (now.limits.pages < l.key.page) → l.key.page ≤ now.limits.pages
      by (inl le) = le
      by (inr past) =
          let last = on.is_data.is_page.last in
          let blank : bytes_at v.content on.file l.key.page ≡ zeros (area_file on.file) =
          facts.pages.past on.file (l.key.page - 1) (bytes_at v.content on.file l.key.page) (file_of_owner on.file on.head.owner on.stands.owner) (omega (arith, past)) (omega (arith, past, last)) (pends v left (area_file on.file) (l.key.page - 1)) in
          absurd (not_unused (bytes_at v.content on.file l.key.page) on.file l.key.page on.head on.stands (zeros_unused (area_file on.file) (bytes_at v.content on.file l.key.page) blank))

  has_page : (l : BackupLine) → IsOnPage v.content l → HasPage now.limits.pages l
  has_page l on = record {
    page = on.is_data;
    within = within l on;
    line = subst (λ (c : ℕ). l.key.line < lines_of c) on.class on.line;
    area = (on.file, subst (λ (a : ℕ). IsOwner on.file a) on.area on.stands.owner);
  }

  -- the area and the class of a line are those of its page in the file of its area
  area_there : (l : BackupLine) (file : ℕ) → IsOnPage v.content l → IsOwner file l.key.area → (l.key.area ≡ owner_at (bytes_at v.content file l.key.page)) × (l.class ≡ class_at (bytes_at v.content file l.key.page))
  area_there l file on owner =
      let same : on.file ≡ file = file_of_area on.file l.key.area (subst (λ (a : ℕ). IsOwner on.file a) on.area on.stands.owner) ∙ sym (file_of_area file l.key.area owner) in
      let its : (l.key.area ≡ owner_at (bytes_at v.content on.file l.key.page)) × (l.class ≡ class_at (bytes_at v.content on.file l.key.page)) =
      (sym on.area ∙ sym (owner_is (bytes_at v.content on.file l.key.page) on.head on.stands.head), sym on.class ∙ sym (class_is (bytes_at v.content on.file l.key.page) on.head on.stands.head)) in
      subst (λ (f : ℕ). (l.key.area ≡ owner_at (bytes_at v.content f l.key.page)) × (l.class ≡ class_at (bytes_at v.content f l.key.page))) same its

  share : (lines : List BackupLine) → AreOnPages v.content lines → SharePages lines
  share lines on i k a b file got_a got_b own_a own_b page =
      let left_one = area_there a file (on i a got_a) own_a in
      let right_one = area_there b file (on k b got_b) own_b in
      let bytes : bytes_at v.content file a.key.page ≡ bytes_at v.content file b.key.page = ap (λ (n : ℕ). bytes_at v.content file n) page in
      (left_one.0 ∙ ap owner_at bytes ∙ sym right_one.0, left_one.1 ∙ ap class_at bytes ∙ sym right_one.1)

  limits : AreLimits now.limits
  limits = let root = facts.root (v.content root_file 0) (pends v left root_file 0) in subst AreLimits root.limits root.is.allowed.limits

  pub copies_whole : (former : Former) (w : View) (b : Backup) (copying : Copying former v.content now (λ key. false) w b) → b.limits ≡ now.limits → IsWhole (head_of b copying.lines) copying.lines
  copies_whole former w b copying same = record {
    format = refl;
    limits = subst AreLimits (sym same) limits;
    in_order = copying.holds.in_order;
    on_pages = λ i line got. subst (λ l. HasPage l.pages line) (sym same) (has_page line (copying.on_pages i line got));
    share = share copying.lines copying.on_pages;
  }

  -- they are the lines for which the image stands
  pub copies_same : (former : Former) (w : View) (b : Backup) (copying : Copying former v.content now (λ key. false) w b) (classes : ℕ → ℕ) (lines : Lines) (journal : Journal) → Kept classes lines journal v.content → ((member : ℕ) → IsMember member → named (v.content (ruj_file member) 0) ≡ 0)
      → lines_in copying.lines ≡ lines
  copies_same former w b copying classes lines journal kept closed = one_lines v.content journal.groups (lines_in copying.lines) lines
      (restored_stands v.content journal.groups (lines_in copying.lines) copying.holds.in_order closed (λ key. sym (copying.holds.each key refl))) kept.stands

  -- each has the class of its area
  pub copies_class : (former : Former) (w : View) (b : Backup) (copying : Copying former v.content now (λ key. false) w b) (classes : ℕ → ℕ) (lines : Lines) (journal : Journal) → Kept classes lines journal v.content → lines_in copying.lines ≡ lines
      → (i : ℕ) (line : BackupLine) → slice_get copying.lines i ≡ Some line → line.class ≡ classes line.key.area
  copies_class former w b copying classes lines journal kept same i line got =
      let there = some_there copying.lines i line got in
      let on = copying.on_pages i line got in
      let owner : IsOwner on.file line.key.area = subst (λ (a : ℕ). IsOwner on.file a) on.area on.stands.owner in
      let home : IsOwner (storage_area line.key.area) line.key.area = subst (λ (f : ℕ). IsOwner f line.key.area) (file_of_area on.file line.key.area owner) owner in
      let fits : FitsClass (v.content (file_of line.key) (slot_of line.key)) (classes line.key.area) there.0 = kept.class line.key there.0 (subst (λ (ls : Lines). line_in line.key ls ≡ Some there.0) same there.1) in
      (area_there line (storage_area line.key.area) on home).1 ∙ fits.same
