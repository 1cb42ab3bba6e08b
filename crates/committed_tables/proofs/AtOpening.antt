-- A table that is read where nothing is open.
use Rattle.std.proofs.Common.{◌≡◌, ℕ, ◌-◌, ◌≤◌, Bool, true, false, List, Some, None, ⊎_elim, ap, sym, subst, ◌∙◌, refl, arith}
use Rattle.rdb_types.specs.declared.file.FileId.{FileId}
use Rattle.rdb_types.specs.declared.keys.Dbkey.{Dbkey}
use Rattle.rdb_types.specs.declared.keys.Limits.{Limits}
use Rattle.rdb_types.specs.declared.keys.Line.{Line}
use Rattle.rdb_types.specs.declared.keys.LineState.{LineState}
use Rattle.rdb_types.specs.declared.keys.LineState.TheVariants.{Never, Present, Erased}
use Rattle.rdb_outside.specs.Disk.{View, LeftNow, Pending}
use Rattle.rdb_outside.specs.Moments.{each_slot}
use Rattle.rdb_page.specs.Page.{IsOwner}
use Rattle.area_files.specs.Areas.{IsDataPage, space_page_of}
use Rattle.new_database.specs.Maker.{root_file}
use Rattle.line_view.specs.Knowledge.{line_in}
use Rattle.line_versions.specs.Lines.{shown, shown_as, storage_area}
use Rattle.stable_lines.specs.Slots.{area_file, ruj_file, file_of, slot_of, has_place, line_on, line_at, IsAreaFile}
use Rattle.stable_lines.specs.Kept.{IsWellFormed}
use Rattle.stable_lines.specs.Progress.{Progress}
use Rattle.stable_lines.specs.Facts.{Facts}
use Rattle.stable_lines.proofs.Never.{space_owner}
use Rattle.page_table.specs.line_moves.Changes.{IsPlaceOf}
use Rattle.page_table.proofs.of_line_moves.KeyPlaces.{file_is, area_is}
use Rattle.page_table.proofs.of_line_moves.OnlyPut.{some_page}
use Rattle.page_table.proofs.of_line_moves.Putting.{HasPlace, place_says}
use Rattle.page_table.proofs.of_line_moves.Reading.{line_none}
use Rattle.page_table.specs.declared.uses.PageUse.{PageUse}
use Rattle.page_table.specs.Pages.{Pages, use_of, IsUsedLine}
use Rattle.page_table.specs.Reading.{IsTableOf}
use Rattle.page_table.proofs.Present.{used_is_present, present_is_used}
use Rattle.committed_tables.specs.Tables.{HasCommitted}
use Rattle.committed_tables.proofs.Following.{some_owner}

is_there : (s : LineState) (image bytes : List ℕ) → shown_as s image ≡ Some bytes → s ≡ Present
is_there Never image bytes is = let bad : ⊥ = cc in absurd bad
is_there Present image bytes is = refl
is_there Erased image bytes is = let bad : ⊥ = cc in absurd bad

has_one : (key : Dbkey) (page : List ℕ) → (line_on key page).state ≡ Present → has_place key page ≡ true
has_one key page there = by (has_place key page) refl
  where
    by : (b : Bool) → has_place key page ≡ b → has_place key page ≡ true
    by true is = is
    by false is = let never_was : Never ≡ Present = ap (λ (l : Line). l.state) (sym (line_none key page is)) ∙ there in absurd (cc)

module _ (v : View) (left : LeftNow v v.content) (base : Progress) (facts : Facts (Pending v) base) (rests : (member : ℕ) → base.going member ≡ None) where
  pends : (f : FileId) (i : ℕ) → Pending v f i (v.content f i)
  pends f i = each_slot v v.content left f i

  formed : IsWellFormed v.content base.limits.pages
  formed = record {
    page = λ file number is plain. facts.pages.page file number (v.content (area_file file) (number - 1)) is plain (pends (area_file file) (number - 1));
    space = λ file number is page space. facts.pages.space file number (v.content (area_file file) (number - 1)) is page space (pends (area_file file) (number - 1));
    header = λ member is. facts.pages.header member (v.content (ruj_file member) 0) is (pends (ruj_file member) 0);
    owner = λ file number is plain owned. facts.pages.owner file number (v.content (area_file file) (number - 1)) (v.content (area_file file) (space_page_of number - 1)) is plain (pends (area_file file) (number - 1)) owned (pends (area_file file) (space_page_of number - 1));
    past = λ file slot is le lt. facts.pages.past file slot (v.content (area_file file) slot) is le lt (pends (area_file file) slot);
  }

  shows : (key : Dbkey) → shown (line_at v.content key) ≡ line_in key base.lines
  shows key = ⊎_elim (λ c. c.shows) (λ c. let bad : None ≡ Some c.transaction = sym (rests c.member) ∙ c.is_open in absurd (cc)) (facts.line key (v.content (file_of key) (slot_of key)) (pends (file_of key) (slot_of key)))

  few_pages : base.limits.pages ≤ 65536
  few_pages = let root = facts.root (v.content root_file 0) (pends root_file 0) in subst (λ (l : Limits). l.pages ≤ 65536) root.limits root.is.allowed.limits.pages.1

  module _ (file : ℕ) (table : Pages) (is : IsTableOf v.content file base.limits.pages table) (key : Dbkey) (owner : IsOwner file key.area) where
    names : IsPlaceOf (record { area = key.area; page = 2; line = 0 }) (record { file = file; page = 2 })
    names = record { owner = owner; page = refl; is_data = some_page }

    in_file : file ≡ storage_area key.area
    in_file = file_is (record { area = key.area; page = 2; line = 0 }) (record { file = file; page = 2 }) names

    is_file : IsAreaFile (storage_area key.area)
    is_file = subst (λ (n : ℕ). IsAreaFile n) in_file (area_is (record { area = key.area; page = 2; line = 0 }) (record { file = file; page = 2 }) names)

    pub used_begins : IsUsedLine table key → (image : List ℕ) × (line_in key base.lines ≡ Some image)
    used_begins used = ((line_at v.content key).image, sym (shows key) ∙ ap (λ (s : LineState). shown_as s (line_at v.content key).image) there)
      where
        inside : key.page ≤ base.limits.pages
        inside = let last = used.is_line.within.last in let long = is.long in omega (arith, last, long)

        on_data : IsDataPage key.page
        on_data = record {
          is_page = record { first = used.is_line.within.first; last = let few = few_pages in let last = inside in omega (arith, few, last) };
          plain = λ space.
              let nobody : (use_of table key.page).owner ≡ 0 = ap (λ (u : PageUse). u.owner) (is.space key.page (record { first = used.is_line.within.first; last = let few = few_pages in let last = inside in omega (arith, few, last) }) space inside) in
              let owned = used.is_line.owner in let some = some_owner file key.area owner in
              omega (arith, nobody, owned, some);
        }

        there : (line_at v.content key).state ≡ Present
        there = used_is_present v.content file base.limits.pages table formed is key owner on_data used

    pub committed_begins : (bytes : List ℕ) → line_in key base.lines ≡ Some bytes → IsUsedLine table key
    committed_begins bytes found = present_is_used v.content file base.limits.pages table formed is key owner on_data there
      where
        there : (line_at v.content key).state ≡ Present
        there = is_there (line_at v.content key).state (line_at v.content key).image bytes (shows key ∙ found)

        place : HasPlace key (v.content (file_of key) (slot_of key))
        place = place_says key (v.content (file_of key) (slot_of key)) (has_one key (v.content (file_of key) (slot_of key)) there)

        on_data : IsDataPage key.page
        on_data = record {
          is_page = record { first = place.first; last = place.last };
          plain = λ space.
              let none = space_owner (v.content (file_of key) (slot_of key)) key.page (facts.pages.space (storage_area key.area) key.page (v.content (file_of key) (slot_of key)) is_file (record { first = place.first; last = place.last }) space (pends (file_of key) (slot_of key))) in
              let owned = place.owned in let some = some_owner file key.area owner in
              omega (arith, none, owned, some);
        }

  pub begins_with : (file : ℕ) (table : Pages) → IsTableOf v.content file base.limits.pages table → HasCommitted table file base.lines
  begins_with file table is = record {
    used = λ key owner used. used_begins file table is key owner used;
    committed = λ key bytes owner found. committed_begins file table is key owner bytes found;
  }
