-- Where copying begins: nothing is found, and all pages that are used are left.
use Rattle.std.proofs.Common.{◌≡◌, ℕ, ◌-◌, ◌%◌, nat_eq, Bool, true, false, List, [], None, ⊎_elim, refl, sym, ap, subst, ◌∙◌, if◌then◌else◌, arith}
use Rattle.std.specs.BTreeSet.{BTreeSet, contains}
use Rattle.rdb_types.specs.declared.keys.Dbkey.{Dbkey}
use Rattle.rdb_outside.specs.Disk.{View, LeftNow, Pending}
use Rattle.rdb_page.specs.Whole.{IsUsedPage}
use Rattle.area_files.specs.Areas.{IsPage, IsDataPage}
use Rattle.line_versions.specs.Lines.{shown, storage_area}
use Rattle.stable_lines.specs.Slots.{area_file, file_of, slot_of, owner_at, IsAreaFile, has_place, line_at}
use Rattle.stable_lines.specs.Progress.{Progress}
use Rattle.stable_lines.specs.Facts.{Facts}
use Rattle.stable_lines.proofs.Never.{zeros_owner, space_owner}
use Rattle.line_moves.proofs.Putting.{nat_cases, HasPlace, place_says}
use Rattle.line_moves.proofs.Reading.{owner_is, line_none}
use Rattle.line_moves.proofs.Runs.{pends}
use Rattle.backup_making.specs.declared.making.Backup.{Backup}
use Rattle.backup_making.specs.Making.{Former, IsAt}
use Rattle.used_pages.specs.declared.pages.AreaPage.{AreaPage}
use Rattle.used_pages.specs.Pages.{page_order, bytes_at, has, HasUsed, AreWhole}
use Rattle.copied_lines.specs.Holding.{page_of, on_pages}
use Rattle.copied_lines.specs.Copying.{Copying}
use Rattle.copied_lines.proofs.Holding.{nothing_found, passed}

pub is_area_file : (area : ℕ) → IsAreaFile (storage_area area)
is_area_file area = by (nat_eq area 1) (nat_eq (area % 2) 0)
  where
    by : (a b : Bool) → IsAreaFile (if a then 1 else (if b then 2 else 3))
    by true b = record { first = omega arith; last = omega arith }
    by false true = record { first = omega arith; last = omega arith }
    by false false = record { first = omega arith; last = omega arith }

module _ (v : View) (now : Progress) (left : LeftNow v v.content) (facts : Facts (Pending v) now) where
  pub pages_whole : AreWhole v.content
  pages_whole file page is data_page = facts.pages.page file page (bytes_at v.content file page) is data_page (pends v left (area_file file) (page - 1))

  module _ (pages : BTreeSet AreaPage) (used : HasUsed v.content pages) (key : Dbkey) (off : contains page_order pages (page_of key) ≡ false) where
    abbrev its_bytes : List ℕ
    its_bytes = v.content (file_of key) (slot_of key)

    no_owner : (says : HasPlace key its_bytes) → owner_at its_bytes ≡ 0 → ⊥
    no_owner says none = let owned = says.owned in let area = says.area in omega (arith, owned, area, none)

    used_there : (says : HasPlace key its_bytes) → IsDataPage key.page → IsUsedPage (storage_area key.area) key.page its_bytes → ⊥
    used_there says data_page page =
        let there : has pages (record { area = page.head.owner; page = key.page }) = used (storage_area key.area) key.page page.head (is_area_file key.area) data_page page.stands in
        let area : page.head.owner ≡ key.area = sym (owner_is its_bytes page.head page.stands.head) ∙ says.owned in
        let same : has pages (page_of key) = subst (λ (a : ℕ). has pages (record { area = a; page = key.page })) area there in
        let bad : true ≡ false = sym same ∙ off in let nay : ⊥ = cc in nay

    no_place : has_place key its_bytes ≡ true → ⊥
    no_place so =
        let says = place_says key its_bytes so in
        let is_page : IsPage key.page = record { first = says.first; last = says.last } in
        ⊎_elim
        (λ space. no_owner says (space_owner its_bytes key.page (facts.pages.space (storage_area key.area) key.page its_bytes (is_area_file key.area) is_page space (pends v left (file_of key) (slot_of key)))))
        (λ plain. let data_page : IsDataPage key.page = record { is_page = is_page; plain = plain } in
        ⊎_elim (λ unused. no_owner says (zeros_owner its_bytes unused)) (used_there says data_page) (pages_whole (storage_area key.area) key.page (is_area_file key.area) data_page))
        (nat_cases ((key.page - 1) % 200) 0)

    isnt : (b : Bool) → (b ≡ true → ⊥) → b ≡ false
    isnt true nay = absurd (nay refl)
    isnt false nay = refl

    pub none_there : shown (line_at v.content key) ≡ None
    none_there = ap shown (line_none key its_bytes (isnt (has_place key its_bytes) no_place))

  pub copying_begins : (former : Former) (b : Backup) (pages : BTreeSet AreaPage) (w : View) → HasUsed v.content pages → IsAt former w b [] → Facts (Pending w) now → ((file slot : ℕ) → w.content (area_file file) slot ≡ v.content (area_file file) slot)
      → Copying former v.content now (on_pages (contains page_order pages)) w b
  copying_begins former b pages w used at kept same = record {
    lines = [];
    at = at;
    holds = passed v.content (λ key. true) (on_pages (contains page_order pages)) [] (nothing_found v.content) (λ q so. refl) (λ q so off. none_there pages used q off);
    on_pages = λ i line got. let nay : ⊥ = cc in absurd nay;
    facts = kept;
    same = same;
    whole = pages_whole;
  }
