-- Pages that are used, up to one and all.
use Rattle.std.proofs.Common.{◌≡◌, ℕ, ◌-◌, ◌≤◌, ◌<◌, List, length, replicate, ◌⊎◌, inl, inr, sym, ap, subst, ◌∙◌, arith}
use Rattle.std.proofs.lemmas.List.{length-replicate}
use Rattle.std.specs.BTreeSet.{BTreeSet}
use Rattle.rdb_types.specs.declared.file.FileId.{FileId}
use Rattle.rdb_types.specs.File.{slot_bytes}
use Rattle.rdb_outside.specs.Disk.{Image, zeros}
use Rattle.rdb_page.specs.declared.head.Head.{Head}
use Rattle.rdb_page.specs.Page.{IsUnused, StandsAs}
use Rattle.area_files.specs.Areas.{IsSpacePage, IsDataPage}
use Rattle.stable_lines.specs.Slots.{area_file}
use Rattle.line_moves.proofs.Reading.{owner_is}
use Rattle.line_moves.proofs.Spots.{not_unused}
use Rattle.used_pages.specs.declared.pages.AreaPage.{AreaPage}
use Rattle.used_pages.specs.Pages.{has, bytes_at, HasUsed, HasUsedTo}

zeros_unused : (file : FileId) (x : List ℕ) → x ≡ zeros file → IsUnused x
zeros_unused file x is = is ∙ ap (λ (k : ℕ). replicate {A = ℕ} k 0) (sym (ap (λ (l : List ℕ). length l) is ∙ length-replicate (slot_bytes file) 0))

before_or_it : (a b : ℕ) → a ≤ b → (a ≤ b - 1) ⊎ (a ≡ b)
before_or_it a b le = grind arith

module _ (image : Image) (file : ℕ) where
  -- the page of this number, with this head, is there
  abbrev pub IsThere : ℕ → BTreeSet AreaPage → Type 0
  IsThere number pages = (head : Head) → IsDataPage number → StandsAs (bytes_at image file number) file number head → has pages (record { area = head.owner; page = number })

  pub none_used : (pages : BTreeSet AreaPage) → HasUsedTo image file 0 pages
  none_used pages page head le data_page stands = absurd (let first = data_page.is_page.first in omega (arith, le, first))

  pub still_used : (last : ℕ) (old new : BTreeSet AreaPage) → ((other : AreaPage) → has old other → has new other) → HasUsedTo image file last old → HasUsedTo image file last new
  still_used last old new stays was page head le data_page stands = stays (record { area = head.owner; page = page }) (was page head le data_page stands)

  -- one page more
  pub used_next : (number : ℕ) (old new : BTreeSet AreaPage) → ((other : AreaPage) → has old other → has new other) → IsThere number new → HasUsedTo image file (number - 1) old → HasUsedTo image file number new
  used_next number old new stays there was page head le data_page stands = by (before_or_it page number le)
    where
      by : (page ≤ number - 1) ⊎ (page ≡ number) → has new (record { area = head.owner; page = page })
      by (inl before) = stays (record { area = head.owner; page = page }) (was page head before data_page stands)
      by (inr same) = subst (λ (n : ℕ). has new (record { area = head.owner; page = n })) (sym same)
          (there head (subst IsDataPage same data_page) (subst (λ (n : ℕ). StandsAs (bytes_at image file n) file n head) same stands))

  -- ---- one page

  pub unused_there : (number : ℕ) (pages : BTreeSet AreaPage) → IsUnused (bytes_at image file number) → IsThere number pages
  unused_there number pages unused head data_page stands = absurd (not_unused (bytes_at image file number) file number head stands unused)

  pub space_there : (number : ℕ) (pages : BTreeSet AreaPage) → IsSpacePage number → IsThere number pages
  space_there number pages space head data_page stands = absurd (data_page.plain space)

  pub head_there : (number : ℕ) (pages : BTreeSet AreaPage) (found : Head) → StandsAs (bytes_at image file number) file number found → has pages (record { area = found.owner; page = number }) → IsThere number pages
  head_there number pages found is there head data_page stands =
      let bytes = bytes_at image file number in
      let same : found.owner ≡ head.owner = sym (owner_is bytes found is.head) ∙ owner_is bytes head stands.head in
      subst (λ (a : ℕ). has pages (record { area = a; page = number })) same there

  -- behind the end of the file
  pub all_used : (last : ℕ) (pages : BTreeSet AreaPage) → ((page : ℕ) → last < page → page ≤ 65536 → bytes_at image file page ≡ zeros (area_file file)) → HasUsedTo image file last pages → HasUsedTo image file 65536 pages
  all_used last pages ends was page head le data_page stands = by (cases page last)
    where
      cases : (a b : ℕ) → (a ≤ b) ⊎ (b < a)
      cases a b = grind arith

      by : (page ≤ last) ⊎ (last < page) → has pages (record { area = head.owner; page = page })
      by (inl before) = was page head before data_page stands
      by (inr past) = absurd (not_unused (bytes_at image file page) file page head stands (zeros_unused (area_file file) (bytes_at image file page) (ends page past le)))

-- the three files
pub three_files : (image : Image) (pages : BTreeSet AreaPage) → HasUsedTo image 1 65536 pages → HasUsedTo image 2 65536 pages → HasUsedTo image 3 65536 pages → HasUsed image pages
three_files image pages first second third file page head is data_page stands = by (cases file is.first is.last)
  where
    cases : (f : ℕ) → 1 ≤ f → f ≤ 3 → (f ≡ 1) ⊎ (f ≡ 2) ⊎ (f ≡ 3)
    cases f some few = grind arith

    at : (f : ℕ) → file ≡ f → HasUsedTo image f 65536 pages → has pages (record { area = head.owner; page = page })
    at f same used = used page head data_page.is_page.last data_page (subst (λ (n : ℕ). StandsAs (bytes_at image n page) n page head) same stands)

    by : (file ≡ 1) ⊎ (file ≡ 2) ⊎ (file ≡ 3) → has pages (record { area = head.owner; page = page })
    by (inl same) = at 1 same first
    by (inr (inl same)) = at 2 same second
    by (inr (inr same)) = at 3 same third
