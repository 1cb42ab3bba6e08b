-- Pages that are used, by their logical areas.
use Rattle.std.specs.Prelude.{ℕ, ◌-◌, ◌≤◌, ◌≡◌, true, List}
use Rattle.std.specs.declared.cmp.Ordering.{Ordering}
use Rattle.std.specs.Ordering.{nat_cmp, ordering_then}
use Rattle.std.specs.BTreeSet.{BTreeSet, contains}
use Rattle.rdb_outside.specs.Disk.{Image}
use Rattle.rdb_page.specs.declared.head.Head.{Head}
use Rattle.rdb_page.specs.Page.{IsOwner, StandsAs}
use Rattle.rdb_page.specs.Whole.{IsPageOf}
use Rattle.area_files.specs.Areas.{IsDataPage}
use Rattle.stable_lines.specs.Slots.{area_file, IsAreaFile}
use Rattle.used_pages.specs.declared.pages.AreaPage.{AreaPage}

-- by area, then by page
abbrev pub page_order : AreaPage → AreaPage → Ordering
page_order a b = ordering_then (nat_cmp a.area b.area) (nat_cmp a.page b.page)

-- a data page, in the file of its logical area
pub record IsPlaced (page : AreaPage) : Type 0 where
  pub file : ℕ
  pub owner : IsOwner file page.area
  pub is_data : IsDataPage page.page

abbrev pub has : BTreeSet AreaPage → AreaPage → Type 0
has pages page = contains page_order pages page ≡ true

abbrev pub ArePlaced : BTreeSet AreaPage → Type 0
ArePlaced pages = (page : AreaPage) → has pages page → IsPlaced page

-- the bytes of a page of an area file, which counts from 1
abbrev pub bytes_at : Image → ℕ → ℕ → List ℕ
bytes_at image file page = image (area_file file) (page - 1)

-- each page that is used is there, under the logical area that it says
abbrev pub HasUsed : Image → BTreeSet AreaPage → Type 0
HasUsed image pages = (file page : ℕ) (head : Head) → IsAreaFile file → IsDataPage page → StandsAs (bytes_at image file page) file page head
    → has pages (record { area = head.owner; page = page })

-- those of one file up to a page
abbrev pub HasUsedTo : Image → ℕ → ℕ → BTreeSet AreaPage → Type 0
HasUsedTo image file last pages = (page : ℕ) (head : Head) → page ≤ last → IsDataPage page → StandsAs (bytes_at image file page) file page head
    → has pages (record { area = head.owner; page = page })

-- each data page passes its decoder
abbrev pub AreWhole : Image → Type 0
AreWhole image = (file page : ℕ) → IsAreaFile file → IsDataPage page → IsPageOf file page (bytes_at image file page)
