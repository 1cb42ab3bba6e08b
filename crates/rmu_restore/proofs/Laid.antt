-- A line more is laid.
use Rattle.std.proofs.Common.{◌≡◌, ◌≢◌, ℕ, ◌+◌, ◌-◌, ◌≤◌, List, [], ◌∷◌, ◌++◌, length, Some, None, slice_get, ◌⊎◌, inl, inr, ⊎_elim, refl, sym, ap, subst, ◌∙◌, arith}
use Rattle.std.proofs.lemmas.Option.{slice_get_within}
use Rattle.std.specs.declared.cmp.Ordering.TheVariants.{Less}
use Rattle.rdb_types.specs.Order.{dbkey_order}
use Rattle.rdb_types.specs.declared.file.FileId.{FileId}
use Rattle.rdb_types.specs.declared.keys.Dbkey.{Dbkey}
use Rattle.rdb_types.specs.declared.keys.Line.{Line}
use Rattle.rdb_outside.specs.Disk.{Image}
use Rattle.rdb_page.specs.Page.{IsOwner, IsUnused}
use Rattle.area_files.specs.Areas.{IsDataPage}
use Rattle.line_versions.specs.Lines.{storage_area, shown}
use Rattle.line_view.specs.Knowledge.{line_in}
use Rattle.stable_lines.specs.Slots.{area_file, file_of, slot_of, IsAreaFile, line_at}
use Rattle.stable_lines.proofs.Lists.{got_either, got_left, got_right, got_one}
use Rattle.line_moves.specs.Changes.{IsPlaceOf}
use Rattle.line_moves.proofs.KeyPlaces.{file_is}
use Rattle.line_moves.proofs.LinePut.{same_key}
use Rattle.line_moves.proofs.Putting.{nat_cases}
use Rattle.backup_file.specs.declared.line.BackupLine.{BackupLine}
use Rattle.backup_file.specs.Whole.{lines_in, HasPage}
use Rattle.backup_reading.proofs.Sorted.{sorted_less}
use Rattle.guarded_lines.specs.Laying.{IsOfArea, HasRoom, page_of, Lays}
use Rattle.rmu_restore.specs.Laying.{line_of, IsUsedBy, HasLaid, MayJoin}
use Rattle.rmu_restore.proofs.Blank.{storage_is}
use Rattle.rmu_restore.proofs.Finding.{not_tied, none_found, found_here, found_other}

same_page : (a b : ℕ) → 1 ≤ a → 1 ≤ b → a - 1 ≡ b - 1 → a ≡ b
same_page a b la lb e = omega (arith, la, lb, e)

-- where a line of a backup lies
pub names_in : (pages : ℕ) (line : BackupLine) (has : HasPage pages line) → IsPlaceOf line.key (record { file = has.area.0; page = line.key.page })
names_in pages line has = record { owner = has.area.1; page = refl; is_data = has.page }

module _ (pages greatest : ℕ) (lines : List BackupLine) (line : BackupLine) (old : Image) (was : HasLaid pages greatest lines old) (may : MayJoin pages lines line) where
  more : List BackupLine
  more = lines ++ line ∷ []

  at_end : slice_get (lines ++ line ∷ []) (length lines) ≡ Some line
  at_end = subst (λ (n : ℕ). slice_get (lines ++ line ∷ []) n ≡ Some line) (let same : length lines + 0 ≡ length lines = omega arith in same) (got_right lines (line ∷ []) 0 line refl)

  before : (i : ℕ) (a : BackupLine) → slice_get lines i ≡ Some a → dbkey_order a.key line.key ≡ Less
  before i a got = sorted_less (lines ++ line ∷ []) i (length lines) a line may.in_order (got_left lines (line ∷ []) i a got) at_end (slice_get_within lines i a got)

  none_there : line_in line.key (lines_in lines) ≡ None
  none_there = none_found lines line.key (λ i a got. not_tied a.key line.key (before i a got))

  file_at : (l : BackupLine) (has : HasPage pages l) → has.area.0 ≡ storage_area l.key.area
  file_at l has = file_is l.key (record { file = has.area.0; page = l.key.page }) (names_in pages l has)

  -- a line on the same page is of the same area and class
  beside : (i : ℕ) (a : BackupLine) → slice_get lines i ≡ Some a → file_of a.key ≡ file_of line.key → slot_of a.key ≡ slot_of line.key → (a.key.area ≡ line.key.area) × (a.class ≡ line.class)
  beside i a got in_file in_slot =
      let has = may.on_pages i a got in
      let same : storage_area a.key.area ≡ storage_area line.key.area = ap (λ (f : FileId). f.number) in_file in
      let one : may.page.area.0 ≡ has.area.0 = file_at line may.page ∙ sym same ∙ sym (file_at a has) in
      may.share i (length lines) a line has.area.0 (got_left lines (line ∷ []) i a got) at_end has.area.1 (subst (λ (f : ℕ). IsOwner f line.key.area) one may.page.area.1)
      (same_page a.key.page line.key.page has.page.is_page.first may.page.page.is_page.first in_slot)

  pub room : HasRoom line.key line.class (page_of old line.key)
  room = record { line = may.page.line; page = ⊎_elim (λ unused. inl unused) (λ used. inr (taken used)) (was.used (storage_area line.key.area) line.key.page (storage_is line.key.area) may.page.page) }
    where
      taken : IsUsedBy lines (storage_area line.key.area) line.key.page → IsOfArea line.key.area line.class (page_of old line.key)
      taken used =
          let both = beside used.index used.line used.is used.in_file used.in_slot in
          let there : page_of old used.line.key ≡ page_of old line.key = λ i. old (used.in_file i) (used.in_slot i) in
          let of = subst (IsOfArea used.line.key.area used.line.class) there (was.on_pages used.index used.line used.is) in
          record { owner = of.owner ∙ both.0; class = of.class ∙ both.1 }

  module _ (new : Image) (lays : Lays pages line.key line.class (line_of line) old new) (few : line.tsn.number ≤ greatest) where
    stands : (key : Dbkey) → shown (line_at new key) ≡ line_in key (lines_in (lines ++ line ∷ []))
    stands key = ⊎_elim
        (λ same. ap (λ (k : Dbkey). shown (line_at new k)) same ∙ ap shown lays.stands ∙ sym (ap (λ (k : Dbkey). line_in k (lines_in (lines ++ line ∷ []))) same ∙ found_here lines line none_there))
        (λ apart. ap shown (lays.others key apart) ∙ was.stands key ∙ sym (found_other lines line key none_there apart))
        (same_key key line.key)

    -- the page of another line
    page_still : (i : ℕ) (a : BackupLine) → slice_get lines i ≡ Some a → IsOfArea a.key.area a.class (page_of new a.key)
    page_still i a got = ⊎_elim
        (λ in_slot. ⊎_elim (λ in_file. on_it (ap area_file in_file) in_slot) (λ off. off_it (λ same at. off (sym (ap (λ (f : FileId). f.number) same)))) (nat_cases (storage_area a.key.area) (storage_area line.key.area)))
        (λ off. off_it (λ same at. off (sym at))) (nat_cases (slot_of a.key) (slot_of line.key))
      where
        on_it : file_of a.key ≡ file_of line.key → slot_of a.key ≡ slot_of line.key → IsOfArea a.key.area a.class (page_of new a.key)
        on_it in_file in_slot =
            let both = beside i a got in_file in_slot in
            let there : page_of new line.key ≡ page_of new a.key = sym (λ k. new (in_file k) (in_slot k)) in
            let of = subst (IsOfArea line.key.area line.class) there lays.page in
            record { owner = of.owner ∙ sym both.0; class = of.class ∙ sym both.1 }

        off_it : (file_of line.key ≡ area_file (storage_area a.key.area) → slot_of line.key ≢ a.key.page - 1) → IsOfArea a.key.area a.class (page_of new a.key)
        off_it off = subst (IsOfArea a.key.area a.class) (sym (lays.apart (storage_area a.key.area) a.key.page (may.on_pages i a got).page off)) (was.on_pages i a got)

    on_pages : (i : ℕ) (l : BackupLine) → slice_get (lines ++ line ∷ []) i ≡ Some l → IsOfArea l.key.area l.class (page_of new l.key)
    on_pages i l got = ⊎_elim (λ earlier. page_still i l earlier) (λ it. subst (λ (x : BackupLine). IsOfArea x.key.area x.class (page_of new x.key)) (got_one line l it.0 it.2).1 lays.page) (got_either lines (line ∷ []) i l got)

    used : (file number : ℕ) → IsAreaFile file → IsDataPage number → IsUnused (new (area_file file) (number - 1)) ⊎ IsUsedBy (lines ++ line ∷ []) file number
    used file number file_is_one plain = ⊎_elim
        (λ in_slot. ⊎_elim (λ in_file. inr (record { index = length lines; line = line; is = at_end; in_file = ap area_file in_file; in_slot = in_slot })) (λ off. still (λ same at. off (ap (λ (f : FileId). f.number) same))) (nat_cases (storage_area line.key.area) file))
        (λ off. still (λ same at. off at)) (nat_cases (slot_of line.key) (number - 1))
      where
        still : (file_of line.key ≡ area_file file → slot_of line.key ≢ number - 1) → IsUnused (new (area_file file) (number - 1)) ⊎ IsUsedBy (lines ++ line ∷ []) file number
        still off = ⊎_elim (λ unused. inl (subst IsUnused (sym (lays.apart file number plain off)) unused))
            (λ by. inr (record { index = by.index; line = by.line; is = got_left lines (line ∷ []) by.index by.line by.is; in_file = by.in_file; in_slot = by.in_slot })) (was.used file number file_is_one plain)

    below : (key : Dbkey) → (line_at new key).tsn.number ≤ greatest
    below key = ⊎_elim
        (λ same. subst (λ (k : Dbkey). (line_at new k).tsn.number ≤ greatest) (sym same) (subst (λ (l : Line). l.tsn.number ≤ greatest) (sym lays.stands) few))
        (λ apart. subst (λ (l : Line). l.tsn.number ≤ greatest) (sym (lays.others key apart)) (was.below key)) (same_key key line.key)

    pub laid_more : HasLaid pages greatest (lines ++ line ∷ []) new
    laid_more = record { well_formed = lays.well_formed; stands = stands; on_pages = on_pages; used = used; below = below }
